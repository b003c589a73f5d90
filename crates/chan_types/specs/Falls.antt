-- A script is larger than each script inside it, so recursions over scripts end.
use Rattle.std.specs.Prelude.{◌+◌, ◌≤◌, max, List, [], ◌∷◌}
use Rattle.std.proofs.Common.{arith}
use denote.Param.Weighed.{most}
use Rattle.chan_types.specs.PlanCode.{moves_size}
use Rattle.chan_types.specs.Scripts.{moves_of, inside_of}
use Rattle.chan_types.specs.declared.script.Step.{Step}
use Rattle.chan_types.specs.declared.script.Act.{Act}
use Rattle.chan_types.specs.declared.script.Act.TheVariants.{Ask, Reverse, Cancel, Destroy}
use Rattle.chan_types.specs.declared.script.Script.TheDeep.{deep-Step, deep-Act}

-- an act weighs at most one more than the moves inside it
pub deep_act : (a : Act) → deep-Act a ≤ moves_size (inside_of a) + 1
deep_act (Ask spec script) = omega arith
deep_act (Reverse script) = omega arith
deep_act Cancel = omega arith
deep_act Destroy = omega arith

-- no step weighs more than all of them
pub deep_steps : (steps : List Step) → max (most deep-Step steps) 0 ≤ moves_size (moves_of steps)
deep_steps [] = omega arith
deep_steps (s ∷ steps) = omega (arith, deep_act s.act, deep_steps steps)
