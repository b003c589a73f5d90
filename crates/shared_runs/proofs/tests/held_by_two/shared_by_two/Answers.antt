use Rattle.std.proofs.Common.{◌++◌, ◌∷◌, [], arith}
use Rattle.shared_channel.proofs.Theorems.{all_stay_none, may_finish, one_back}
use Rattle.shared_runs.proofs.tests.held_by_two.shared_by_two.Goals as goal

pub ended-requires : goal.ended-requires
ended-requires g c =
    let back-1 = one_back c.last_pass-left.new.passes.items (c.last_pass-left.new.passes.items) c.last_pass-left.ensures.items (all_stay_none c.last_pass-left.new.passes.items) c.rounds_of_both-left.ensures.left in
    let back-2 = one_back c.last_pass-right.new.passes.items (c.last_pass-left.new.passes.items ++ c.rounds_of_both-left.result.0 ∷ []) c.last_pass-right.ensures.items back-1 c.rounds_of_both-left.ensures.right in
    rw (c.push_reserved-2.ensures.items, c.push_reserved.ensures.items) (may_finish ((c.last_pass-left.new.passes.items ++ c.rounds_of_both-left.result.0 ∷ []) ++ c.rounds_of_both-left.result.1 ∷ []) c.in_ok-channel.ensures.new (omega arith) back-2)
