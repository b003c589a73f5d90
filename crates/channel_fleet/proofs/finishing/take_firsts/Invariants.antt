use Rattle.std.proofs.Common.{◌≡◌, vec_capacity, vec_len}
use Rattle.channel_fleet.proofs.RowLemmas.{IsTaking}
use Rattle.channel_fleet.proofs.finishing.take_firsts.Given as goal

-- so many passes are taken so far
abbrev pub invariant-loop : goal.invariant-loop
invariant-loop g l =
    IsTaking l.fn.passes.items l.passes.items l.row.items l.counter
    × (vec_len l.passes ≡ vec_len l.fn.passes)
    × (vec_len l.row ≡ l.counter)
    × (vec_capacity l.row ≡ vec_capacity l.fn.row)
