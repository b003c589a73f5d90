-- One script deeper, and one step further.
use Rattle.std.proofs.Common.{◌≡◌, ℕ, zero, suc, ◌-◌, ◌<◌, ◌≤◌, Bool, true, false, leb, List, Some, None, cond, ◌&&◌, length, refl, sym, subst, arith}
use Rattle.std.proofs.lemmas.Bool.{le-leb, leb-true, and_right}
use Rattle.chan_types.specs.declared.script.Step.{Step}
use Rattle.chan_types.specs.Scripts.{moves_of}
use Rattle.chan_types.proofs.MovesLemmas.{count_moves}
use Rattle.std.specs.Prelude.{codes, drop}
use Rattle.chan_types.specs.Plans.{Plan, Moves, stop, count, depth}
use Rattle.journal_text.specs.Words.{Word}
use Rattle.journal_text.specs.Reads.{Found, ◌>>=◌, begins_with}
use Rattle.journal_text.specs.ScriptReading.{script_from, body_from, made_plan, moves_from, step_from, step_before}

-- a script, where scripts may nest
pub script_step : (deep : ℕ) (words : List Word) → 0 < deep → script_from deep words ≡ cond (begins_with (codes "(") words) (body_from (script_from (deep - 1)) (drop 1 words)) None
unfolding script_from
script_step zero words some = absurd (omega (arith, some))
script_step (suc deep) words some = let less : suc deep - 1 ≡ deep = omega arith in rw less refl

-- steps, where one may be tried
pub moves_step : (inner : List Word → Found Plan) (most : ℕ) (words : List Word) → 0 < most → moves_from inner most words
    ≡ cond (begins_with (codes ")") words) (Some (stop, drop 1 words)) (step_from inner words >>= λ first. moves_from inner (most - 1) first.1 >>= λ rest. Some (step_before first.0 rest.0, rest.1))
unfolding moves_from
moves_step inner zero words some = absurd (omega (arith, some))
moves_step inner (suc most) words some = let less : suc most - 1 ≡ most = omega arith in rw less refl

pub no_script : (deep : ℕ) (words : List Word) → deep ≡ 0 → script_from deep words ≡ None
unfolding script_from
no_script deep words is = rw is refl

pub no_steps : (inner : List Word → Found Plan) (most : ℕ) (words : List Word) → most ≡ 0 → moves_from inner most words ≡ None
unfolding moves_from
no_steps inner most words is = rw is refl

not_le : (a b : ℕ) → b < a → leb a b ≡ false
not_le a b more = tested (leb a b) refl where
  tested : (test : Bool) → leb a b ≡ test → test ≡ false
  tested true is = absurd (omega (arith, more, leb-true a b is))
  tested false is = refl

-- too many steps, too deep ones, and a script
pub made_many : (tag : ℕ) (steps : List Step) → 8 < length steps → made_plan tag (moves_of steps) ≡ None
unfolding made_plan
made_many tag steps many = rw (not_le (count (moves_of steps)) 8 (omega (arith, many, count_moves steps))) refl

pub made_deep : (tag : ℕ) (steps : List Step) → 4 < depth (moves_of steps) → made_plan tag (moves_of steps) ≡ None
unfolding made_plan
made_deep tag steps deep = rw (and_right (leb (count (moves_of steps)) 8) (leb (depth (moves_of steps)) 4) (not_le (depth (moves_of steps)) 4 deep)) refl

pub made_one : (tag : ℕ) (steps : List Step) → count (moves_of steps) ≤ 8 → depth (moves_of steps) ≤ 4 → made_plan tag (moves_of steps) ≡ Some (record { tag = tag; moves = moves_of steps })
unfolding made_plan
made_one tag steps few flat = rw (le-leb (count (moves_of steps)) 8 few, le-leb (depth (moves_of steps)) 4 flat) refl
