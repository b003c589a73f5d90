use Rattle.std.proofs.Common.{◌++◌, ◌∷◌, [], arith}
use Rattle.shared_channel.proofs.Theorems.{all_stay_none, may_finish, one_back}
use Rattle.shared_channel_bench.proofs.threads.run_one.Goals as goal

pub finish_all-requires : goal.finish_all-requires
finish_all-requires g c =
    let back-1 = one_back c.last_pass-pass.new.passes.items (c.last_pass-pass.new.passes.items) c.last_pass-pass.ensures.items (all_stay_none c.last_pass-pass.new.passes.items) c.worked-pass.ensures in
    rw (c.push_reserved.ensures.items) (may_finish (c.last_pass-pass.new.passes.items ++ c.worked-pass.result ∷ []) c.in_ok-channel.ensures.new (omega arith) back-1)
