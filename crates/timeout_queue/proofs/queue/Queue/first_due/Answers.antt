use Rattle.std.proofs.Common.{◌≡◌, MatchOption, subst, sym}
use Rattle.std.specs.FinMap as map
use Rattle.timeout_queue.specs.Queue.{IsFirst}
use Rattle.timeout_queue.specs.Rows.{is_live}
use Rattle.timeout_queue.proofs.MomentLemmas.{first_seen, none_seen}
use Rattle.timeout_queue.proofs.queue.Queue.first_due.Goals as goal

-- no row and no tree has a deadline
pub returns-in_err-first : goal.returns-in_err-first
returns-in_err-first c =
    let q = c.self.inside in
    let none = none_seen q.moments _ c.self.view_is (c.in_err-first.ensures (is_live q.moments) c.self.invariant) in
    subst (λ r. MatchOption r (c.args.self.now ≡ map.empty) (λ first. IsFirst c.args.self.now first.0 first.1)) (sym c.from_residual.ensures) none

pub returns : goal.returns
returns c =
    let q = c.self.inside in
    first_seen q.moments _ c.self.view_is _ (c.in_ok-first.ensures (is_live q.moments) c.self.invariant)
