use Rattle.std.proofs.Common.{◌++◌, ◌∷◌, [], arith}
use Rattle.shared_channel.proofs.Theorems.{all_stay_none, may_finish, one_back}
use Rattle.shared_runs.proofs.tests.example.shared_by_two.Goals as goal

pub finish-requires-clause-all : goal.finish-requires-clause-all
finish-requires-clause-all g c =
    let back-1 = one_back c.last_pass-left.new.passes.items (c.last_pass-left.new.passes.items) c.last_pass-left.ensures.items (all_stay_none c.last_pass-left.new.passes.items) c.ask_and_deliver-left.ensures.left in
    let back-2 = one_back c.last_pass-right.new.passes.items (c.last_pass-left.new.passes.items ++ c.ask_and_deliver-left.result.0 ∷ []) c.last_pass-right.ensures.items back-1 c.ask_and_deliver-left.ensures.right in
    rw (c.push_reserved-2.ensures.items, c.push_reserved.ensures.items) (may_finish ((c.last_pass-left.new.passes.items ++ c.ask_and_deliver-left.result.0 ∷ []) ++ c.ask_and_deliver-left.result.1 ∷ []) c.in_ok-channel.ensures.new (omega arith) back-2).0

pub finish-requires-clause-settled : goal.finish-requires-clause-settled
finish-requires-clause-settled g c =
    let back-1 = one_back c.last_pass-left.new.passes.items (c.last_pass-left.new.passes.items) c.last_pass-left.ensures.items (all_stay_none c.last_pass-left.new.passes.items) c.ask_and_deliver-left.ensures.left in
    let back-2 = one_back c.last_pass-right.new.passes.items (c.last_pass-left.new.passes.items ++ c.ask_and_deliver-left.result.0 ∷ []) c.last_pass-right.ensures.items back-1 c.ask_and_deliver-left.ensures.right in
    rw (c.push_reserved-2.ensures.items, c.push_reserved.ensures.items) (may_finish ((c.last_pass-left.new.passes.items ++ c.ask_and_deliver-left.result.0 ∷ []) ++ c.ask_and_deliver-left.result.1 ∷ []) c.in_ok-channel.ensures.new (omega arith) back-2).1
