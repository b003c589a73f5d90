use denote.Param.{param}
use Rattle.shared_channel_bench.proofs.ClosureLemmas.{back_send, four_send}
use Rattle.shared_channel_bench.proofs.threads.asked_and_replied.Goals as goal

-- how a closure's type is named doesn't matter to what it owns
pub join-requires-send-F : goal.join-requires-send-F
join-requires-send-F g c κs within =
    let sent = four_send κs.1.1.1.1.1.1.0 κs.1.1.1.1.1.1.1.0 (param 0 g.row.R) c.type_bounds.sync-R in
    record { owned = sent.owned; leaving = sent.leaving }

pub join-requires-send-A : goal.join-requires-send-A
join-requires-send-A g c κs within = record { owned = back_send.owned; leaving = back_send.leaving }
