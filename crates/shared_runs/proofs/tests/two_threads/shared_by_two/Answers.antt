use Rattle.std.proofs.Common.{◌++◌, ◌∷◌, [], arith}
use Rattle.shared_channel.proofs.Theorems.{all_stay_none, may_finish, one_back, stays_none}
use Rattle.shared_runs.proofs.tests.two_threads.shared_by_two.Goals as goal

pub ended-requires : goal.ended-requires
ended-requires g c =
    let back-1 = one_back c.last_pass-first.new.passes.items (c.last_pass-first.new.passes.items) c.last_pass-first.ensures.items (all_stay_none c.last_pass-first.new.passes.items) c.ask_and_reply-first.ensures.asking in
    let back-2 = one_back c.last_pass-second.new.passes.items (c.last_pass-first.new.passes.items ++ c.ask_and_reply-first.result.0 ∷ []) c.last_pass-second.ensures.items back-1 c.ask_and_reply-first.ensures.replying in
    let back-3 = one_back c.last_pass-third.new.passes.items ((c.last_pass-first.new.passes.items ++ c.ask_and_reply-first.result.0 ∷ []) ++ c.ask_and_reply-first.result.1 ∷ []) c.last_pass-third.ensures.items back-2 (stays_none c.last_pass-third.result) in
    rw (c.push_reserved-3.ensures.items, c.push_reserved-2.ensures.items, c.push_reserved.ensures.items) (may_finish (((c.last_pass-first.new.passes.items ++ c.ask_and_reply-first.result.0 ∷ []) ++ c.ask_and_reply-first.result.1 ∷ []) ++ c.last_pass-third.result ∷ []) c.in_ok-channel.ensures.new (omega arith) back-3)
