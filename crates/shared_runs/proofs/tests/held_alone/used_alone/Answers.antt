use Rattle.std.proofs.Common.{◌++◌, ◌∷◌, [], arith}
use Rattle.shared_channel.proofs.Theorems.{all_stay_none, may_finish, one_back}
use Rattle.shared_runs.proofs.tests.held_alone.used_alone.Goals as goal

pub ended-requires : goal.ended-requires
ended-requires g c =
    let back-1 = one_back c.last_pass-pass.new.passes.items (c.last_pass-pass.new.passes.items) c.last_pass-pass.ensures.items (all_stay_none c.last_pass-pass.new.passes.items) c.used-pass.ensures in
    rw (c.push_reserved.ensures.items) (may_finish (c.last_pass-pass.new.passes.items ++ c.used-pass.result.0 ∷ []) c.in_ok-channel.ensures.new (omega arith) back-1)
