use Rattle.std.proofs.Common.{◌++◌, ◌∷◌, [], arith}
use Rattle.shared_channel.proofs.Theorems.{all_stay_none, may_finish, one_back, stays_more}
use Rattle.thread_runs.proofs.tests.cancels.shared_by_two.Goals as goal

pub finish-requires-clause-all : goal.finish-requires-clause-all
finish-requires-clause-all g c =
    let rest = c.last_pass-first.new.passes.items in
    let ran = stays_more c.last_pass-first.result c.one_beside-second.result.1.0 c.ran-first.result.0 c.one_beside-second.ensures.second c.ran-first.ensures in
    let back-1 = one_back rest rest c.last_pass-first.ensures.items (all_stay_none rest) ran in
    let back-2 = one_back c.last_pass-second.new.passes.items (rest ++ c.ran-first.result.0 ∷ []) c.last_pass-second.ensures.items back-1 c.one_beside-second.ensures.first in
    rw (c.push_reserved-2.ensures.items, c.push_reserved.ensures.items) (may_finish ((rest ++ c.ran-first.result.0 ∷ []) ++ c.one_beside-second.result.0 ∷ []) c.in_ok-channel.ensures.new (omega arith) back-2).0

pub finish-requires-clause-settled : goal.finish-requires-clause-settled
finish-requires-clause-settled g c =
    let rest = c.last_pass-first.new.passes.items in
    let ran = stays_more c.last_pass-first.result c.one_beside-second.result.1.0 c.ran-first.result.0 c.one_beside-second.ensures.second c.ran-first.ensures in
    let back-1 = one_back rest rest c.last_pass-first.ensures.items (all_stay_none rest) ran in
    let back-2 = one_back c.last_pass-second.new.passes.items (rest ++ c.ran-first.result.0 ∷ []) c.last_pass-second.ensures.items back-1 c.one_beside-second.ensures.first in
    rw (c.push_reserved-2.ensures.items, c.push_reserved.ensures.items) (may_finish ((rest ++ c.ran-first.result.0 ∷ []) ++ c.one_beside-second.result.0 ∷ []) c.in_ok-channel.ensures.new (omega arith) back-2).1
