-- Scripts as contracts see them: a tag and moves. A move that asks has the moves of the new callback's script inside it.
use Rattle.std.specs.Prelude.{ℕ, ◌+◌, max}
use Rattle.chan_types.specs.declared.spec.Spec.{Spec}
use Rattle.chan_types.specs.declared.orders.When.{When}
use Rattle.chan_types.specs.declared.orders.Need.{Need}

-- what a step does, without the moves of the script that it hands on: it asks a request, for a callback with this tag; it asks the reverse name of the answer's first address, likewise; it cancels; it destroys
pub data Deed : Type 0 where
  ask : Spec → ℕ → Deed
  reverse : ℕ → Deed
  cancel : Deed
  destroy : Deed

-- the steps of a script: for which answers, the order that is needed, the deed, the moves of the script inside it, and the further steps
pub data Moves : Type 0 where
  stop : Moves
  step : When → Need → Deed → Moves → Moves → Moves

-- a script: its tag and its steps
pub record Plan : Type 0 where
  pub tag : ℕ
  pub moves : Moves

-- the script without a step
abbrev pub blank : ℕ → Plan
blank tag = record { tag = tag; moves = stop }

-- how many steps there are, without those of scripts inside
abbrev pub count : Moves → ℕ
count stop = 0
count (step when need deed inside rest) = count rest + 1

-- how deep a step reaches, where the script inside it has this depth
abbrev pub reach : Deed → ℕ → ℕ
reach (ask spec tag) depth = depth + 1
reach (reverse tag) depth = depth + 1
reach cancel depth = 1
reach destroy depth = 1

-- how deep scripts nest: 1 where no step asks
abbrev pub depth : Moves → ℕ
depth stop = 1
depth (step when need deed inside rest) = max (reach deed (depth inside)) (depth rest)
