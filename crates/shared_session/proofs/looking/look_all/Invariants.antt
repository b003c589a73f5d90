use Rattle.std.proofs.Common.{◌≡◌, vec_capacity, vec_len}
use Rattle.shared_channel.specs.Staying.{AreAt}
use Rattle.shared_session.proofs.RoundLemmas.{IsLooking}
use Rattle.shared_session.proofs.looking.look_all.Given as goal

-- so far so many of the passes have looked, and stand behind the others
abbrev pub invariant-loop : goal.invariant-loop
invariant-loop g l =
    IsLooking l.over l.fn.passes.items l.passes.items l.counter
    × AreAt l.channel l.passes.items
    × (vec_len l.passes ≡ vec_len l.fn.passes)
    × (vec_capacity l.passes ≡ vec_capacity l.fn.passes)
    × (l.count ≡ vec_len l.fn.passes)
