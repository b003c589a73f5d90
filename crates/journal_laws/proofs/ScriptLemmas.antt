-- Scripts as the steps that they have.
use Rattle.std.proofs.Common.{arith, subst}
use Rattle.std.specs.Prelude.{List, length, ◌≡◌, ◌≤◌}
use Rattle.chan_types.proofs.MovesLemmas.{count_moves}
use Rattle.chan_types.specs.Plans.{Moves, Plan, count, depth}
use Rattle.chan_types.specs.Scripts.{moves_of}
use Rattle.chan_types.specs.declared.script.Step.{Step}
use Rattle.journal_text.specs.Fits.{Fits64, FitsMoves, FitsPlan}

-- a script of at most eight steps, nested at most four deep, each of which is in its ranges
pub script_of : (plan : Plan) (steps : List Step) → Fits64 plan.tag → moves_of steps ≡ plan.moves → length steps ≤ 8 → depth plan.moves ≤ 4 → FitsMoves (moves_of steps) → FitsPlan plan
script_of plan steps tag are few flat fits = record {
  tag_fits = tag;
  few = subst (λ (moves : Moves). count moves ≤ 8) are (omega (arith, count_moves steps, few));
  flat = flat;
  steps = subst FitsMoves are fits;
}
