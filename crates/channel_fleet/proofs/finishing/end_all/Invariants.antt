use Rattle.std.proofs.Common.{◌≤◌, ◌+◌, vec_capacity, vec_len}
use Rattle.channel_fleet.specs.Finishing.{MayFinish}
use Rattle.channel_fleet.proofs.EndingLemmas.{IsRollSoFar}
use Rattle.channel_fleet.proofs.finishing.end_all.Given as goal

-- the channels that are left may be finished, and there is room for their parts
abbrev pub invariant-loop-orders : goal.invariant-loop-orders
invariant-loop-orders g l =
    MayFinish l.channels.items l.passes.items l.helms.items
    × (vec_len l.parts + vec_len l.channels ≤ vec_capacity l.parts)
    × IsRollSoFar g.J.ChannelJournal.told l.orders l.fn.passes.items l.fn.helms.items l.passes.items l.helms.items l.parts.items

abbrev pub decreases-loop-orders : goal.decreases-loop-orders
decreases-loop-orders g l = vec_len l.channels
