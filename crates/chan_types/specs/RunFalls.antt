-- A run is larger than each run inside it, so recursions over runs end.
use Rattle.std.specs.Prelude.{◌≡◌, ◌≤◌, max, length, List, [], ◌∷◌}
use Rattle.std.specs.List.{AllByRecursion}
use Rattle.std.proofs.Common.{arith, ap}
use Rattle.std.proofs.lemmas.List.{length-append}
use denote.Param.Weighed.{most}
use Rattle.chan_types.specs.Runs.{answers_in, answers_of, AreBare}
use Rattle.chan_types.specs.declared.runs.Told.{Told}
use Rattle.chan_types.specs.declared.runs.Runs.TheDeep.{deep-Told}

-- nodes without a run behind them weigh one at most
bare_told : (told : List Told) → AllByRecursion (λ other. other.behind ≡ []) told → most deep-Told told ≤ 1
bare_told [] h = omega arith
bare_told (other ∷ told) h = omega (arith, ap length h.0, bare_told told h.1)

-- no node weighs more than the run
pub deep_told : (told : List Told) → AreBare told → max (most deep-Told told) 0 ≤ length (answers_of told)
deep_told [] h = omega arith
deep_told (first ∷ told) h = omega (arith, bare_told told h, length-append (answers_in told) first.behind)
