use Rattle.std.proofs.Common.{◌*◌, ◌/◌, ◌%◌, ◌^◌, rules}
use Rattle.std.proofs.lemmas.List.FromFn.{fill_by_all}
use Rattle.std.specs.Char.{digit_char}
use Rattle.net_addr.specs.Reverse.{digits_backwards}
use Rattle.net_addr.proofs.reverse.digits_backwards.Goals as goal

pub returns : goal.returns
unfolding digits_backwards
returns c =
    fill_by_all (λ k. digit_char (c.args.bits / 2 ^ (4 * k) % 2 ^ 4)) c.loop-k.digits 32 0 c.loop-k.invariant.whole (search rules)
