-- How far the routes were read, as the code keeps it.
use Rattle.own_addresses.specs.Telling.{Leaves}
use Rattle.own_addresses.specs.declared.leaves.Leaves.{Leaves as Kept}

-- the address of the last leaf, and the machine's own so far
abbrev pub leaves_of : Kept → Leaves
leaves_of kept = record { head = kept.head; own = kept.own.items }
