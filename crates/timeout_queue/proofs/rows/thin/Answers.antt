use Rattle.std.proofs.Common.{rules}
use Rattle.std.proofs.lemmas.Fn.{filter_same}
use Rattle.timeout_queue.specs.Rows.{is_live}
use Rattle.timeout_queue.proofs.RowsLemmas.{thins_filter}
use Rattle.timeout_queue.proofs.rows.thin.Goals as goal

-- those that are live stay
pub returns : goal.returns
returns c = thins_filter (is_live c.args.moments.now) _ _ (filter_same _ _ _ (λ x b f' k. search rules) _ _ c.retain.ensures.filtered)
