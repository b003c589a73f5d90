use Rattle.std.proofs.Common.{◌≡◌, ◌++◌, length}
use Rattle.std.specs.Vec.Iter.{into_iter_items}
use Rattle.channel_fleet.specs.Yards.{HasRoomFor, IsYard}
use Rattle.channel_fleet.proofs.fleet.Fleet.make.Given as goal

-- so far the first setups have their channels, and there is room for the others
abbrev pub invariant-loop-setup : goal.invariant-loop-setup
invariant-loop-setup g l =
    (goal.iterator-loop-setup g).can_next l.setup-iterator
    × (goal.iterator-loop-setup g).is_finite l.setup-iterator
    × (l.yielded ++ into_iter_items l.setup-iterator ≡ into_iter_items l.initial.setup-iterator)
    × IsYard l.callers l.yielded l.yard
    × HasRoomFor (length (into_iter_items l.setup-iterator)) l.yard
