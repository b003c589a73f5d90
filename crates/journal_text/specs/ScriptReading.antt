-- Scripts out of words.
use Rattle.std.specs.Prelude.{ℕ, zero, suc, ◌&&◌, nat_le, List, [], ◌∷◌, Option, Some, None, if◌then◌else◌, bytes_eq, codes, drop}
use Rattle.chan_types.specs.declared.spec.Spec.{Spec}
use Rattle.chan_types.specs.declared.orders.When.{When}
use Rattle.chan_types.specs.declared.orders.Need.{Need}
use Rattle.chan_types.specs.Plans.{Plan, Moves, Deed, stop, step, ask, reverse, cancel, destroy, count, depth}
use Rattle.journal_text.specs.Words.{Word}
use Rattle.journal_text.specs.Reads.{Found, ◌>>=◌, begins_with}
use Rattle.journal_text.specs.Atoms.{number_from, when_from, need_from}
use Rattle.journal_text.specs.RequestReading.{spec_from}

-- a request, and a script read by the rule inner
unfoldable pub ask_from : (List Word → Found Plan) → List Word → Found (Deed × Moves)
ask_from inner words = do
  spec ← spec_from words
  plan ← inner spec.1
  Some ((ask spec.0 plan.0.tag, plan.0.moves), plan.1)

unfoldable pub rev_from : (List Word → Found Plan) → List Word → Found (Deed × Moves)
rev_from inner words = do
  plan ← inner words
  Some ((reverse plan.0.tag, plan.0.moves), plan.1)

-- what a step does, by its word, and the steps inside
unfoldable pub act_from : (List Word → Found Plan) → List Word → Found (Deed × Moves)
act_from inner [] = None
act_from inner (kind ∷ words) =
    if bytes_eq kind (codes "ask") then ask_from inner words
    else (if bytes_eq kind (codes "rev") then rev_from inner words
    else (if bytes_eq kind (codes "cancel") then Some ((cancel, stop), words)
    else (if bytes_eq kind (codes "destroy") then Some ((destroy, stop), words)
    else None)))

-- a step: for which answers, the order that it needs, and what it does
unfoldable pub step_from : (List Word → Found Plan) → List Word → Found (When × Need × Deed × Moves)
step_from inner words = do
  when ← when_from words
  need ← need_from when.1
  act ← act_from inner need.1
  Some ((when.0, need.0, act.0.0, act.0.1), act.1)

-- a step and further ones
abbrev pub step_before : When × Need × Deed × Moves → Moves → Moves
step_before first rest = step first.0 first.1 first.2 first.3 rest

-- fewer steps than this one number, and the closing parenthesis
unfoldable pub moves_from : (List Word → Found Plan) → ℕ → List Word → Found Moves
moves_from inner zero words = None
moves_from inner (suc most) words =
    if begins_with (codes ")") words then Some (stop, drop 1 words)
    else (step_from inner words >>= λ first. moves_from inner most first.1 >>= λ rest. Some (step_before first.0 rest.0, rest.1))

-- the script of this tag and these steps, where they make one
unfoldable pub made_plan : ℕ → Moves → Option Plan
made_plan tag moves = if nat_le (count moves) 8 && nat_le (depth moves) 4 then Some (record { tag = tag; moves = moves }) else None

-- a tag and steps
unfoldable pub body_from : (List Word → Found Plan) → List Word → Found Plan
body_from inner words = do
  tag ← number_from 18446744073709551615 words
  moves ← moves_from inner 9 tag.1
  plan ← made_plan tag.0 moves.0
  Some (plan, moves.1)

-- a script whose scripts nest at most so deep
unfoldable pub script_from : ℕ → List Word → Found Plan
script_from zero words = None
script_from (suc deep) words = if begins_with (codes "(") words then body_from (script_from deep) (drop 1 words) else None
