use Rattle.std.proofs.Common.{ap, is_some, sym, ◌∙◌}
use Rattle.timeout_queue.proofs.MomentLemmas.{get-seen}
use Rattle.timeout_queue.proofs.queue.Queue.has.Goals as goal

-- the deadlines have these moments
pub returns : goal.returns
returns c = c.contains_key.ensures ∙ ap is_some (sym (get-seen c.self.inside.moments _ c.self.view_is c.args.key))
