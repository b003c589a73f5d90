use Rattle.std.proofs.Common.{◌++◌, ◌∷◌, [], arith}
use Rattle.shared_channel.proofs.Theorems.{all_stay_none, may_finish, one_back}
use Rattle.shared_runs.proofs.tests.four_threads.shared_by_four.Goals as goal

pub ended-requires : goal.ended-requires
ended-requires g c =
    let back-1 = one_back c.last_pass-first.new.passes.items (c.last_pass-first.new.passes.items) c.last_pass-first.ensures.items (all_stay_none c.last_pass-first.new.passes.items) c.rounds_of_four-left.ensures.left.0 in
    let back-2 = one_back c.last_pass-second.new.passes.items (c.last_pass-first.new.passes.items ++ c.rounds_of_four-left.result.0.0 ∷ []) c.last_pass-second.ensures.items back-1 c.rounds_of_four-left.ensures.left.1 in
    let back-3 = one_back c.last_pass-third.new.passes.items ((c.last_pass-first.new.passes.items ++ c.rounds_of_four-left.result.0.0 ∷ []) ++ c.rounds_of_four-left.result.0.1 ∷ []) c.last_pass-third.ensures.items back-2 c.rounds_of_four-left.ensures.right.0 in
    let back-4 = one_back c.last_pass-fourth.new.passes.items (((c.last_pass-first.new.passes.items ++ c.rounds_of_four-left.result.0.0 ∷ []) ++ c.rounds_of_four-left.result.0.1 ∷ []) ++ c.rounds_of_four-left.result.1.0 ∷ []) c.last_pass-fourth.ensures.items back-3 c.rounds_of_four-left.ensures.right.1 in
    rw (c.push_reserved-4.ensures.items, c.push_reserved-3.ensures.items, c.push_reserved-2.ensures.items, c.push_reserved.ensures.items) (may_finish ((((c.last_pass-first.new.passes.items ++ c.rounds_of_four-left.result.0.0 ∷ []) ++ c.rounds_of_four-left.result.0.1 ∷ []) ++ c.rounds_of_four-left.result.1.0 ∷ []) ++ c.rounds_of_four-left.result.1.1 ∷ []) c.in_ok-channel.ensures.new (omega arith) back-4)
