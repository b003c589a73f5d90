use denote.Param.{param}
use denote.Param.Send.{sendable}
use Rattle.shared_channel.proofs.Theorems.{pass_send}
use Rattle.thread_runs.proofs.ClosureLemmas.{asker_send}
use Rattle.thread_runs.proofs.tests.cancels.asked_beside.Goals as goal

-- how a closure's type is named doesn't matter to what it owns
pub join-requires-send-F : goal.join-requires-send-F
join-requires-send-F g c κs within =
    let sent = asker_send κs.1.1.1.1.1.1.0 κs.1.1.1.1.1.1.1.0 (param 0 g.row.R) c.type_bounds.sync-R in
    record { owned = sent.owned; leaving = sent.leaving }

pub join-requires-send-A : goal.join-requires-send-A
join-requires-send-A g c κs within = search (pass_send, sendable) depth 20 fits 20000
