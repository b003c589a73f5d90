-- A lookup that an entry concerns has an attempt in flight.
use Rattle.channel_table.proofs.Base.{◌≡◌, ℕ, Bool, true, false, is_some, flying_in, Phase, flying_over, concerns, Concerned, Over, Lookup}
use Rattle.query_machine.specs.Legs.{IsInFlight}
use Rattle.query_machine.specs.declared.leg.Phase.TheVariants as phases
use Rattle.channel_table.specs.declared.concerned.Concerned.TheVariants.{First, Second}

flies_so : (phase : Phase) → is_some (flying_in phase) ≡ true → IsInFlight phase
flies_so phases.Waiting e = absurd cc
flies_so (phases.InFlight flying) e = tt
flies_so (phases.Ended status) e = absurd cc

over_flies : (server link : ℕ) (phase : Phase) → flying_over server link (flying_in phase) ≡ true → IsInFlight phase
over_flies server link phases.Waiting e = absurd cc
over_flies server link (phases.InFlight flying) e = tt
over_flies server link (phases.Ended status) e = absurd cc

pub concerned_flies : (concerned : Concerned) (second : Bool) (lookup : Lookup) → concerns concerned second lookup ≡ true → IsInFlight lookup.leg.phase
concerned_flies First true lookup e = absurd cc
concerned_flies First false lookup e = flies_so lookup.leg.phase e
concerned_flies Second true lookup e = flies_so lookup.leg.phase e
concerned_flies Second false lookup e = absurd cc
concerned_flies (Over server link) second lookup e = over_flies server link lookup.leg.phase e
