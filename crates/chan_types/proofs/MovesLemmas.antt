-- Counts and depths of the steps of a script.
use Rattle.std.proofs.Common.{ℕ, ◌≡◌, ◌+◌, max, List, [], ◌∷◌, ◌++◌, length, refl, arith, ◌<◌, take, get_or, ap, ◌∙◌, sym}
use Rattle.std.proofs.lemmas.List.{take_more}
use Rattle.chan_types.specs.Plans.{count, depth, reach}
use Rattle.chan_types.specs.Scripts.{moves_of, inside_of, deed_of}
use Rattle.chan_types.specs.declared.script.Step.{Step}

-- as many moves as steps
pub count_moves : (steps : List Step) → count (moves_of steps) ≡ length steps
count_moves [] = refl
count_moves (s ∷ steps) = omega (arith, count_moves steps)

-- one step more: it and those before decide the depth
pub depth-push : (steps : List Step) (s : Step) → depth (moves_of (steps ++ s ∷ [])) ≡ max (depth (moves_of steps)) (reach (deed_of s.act) (depth (inside_of s.act)))
depth-push [] s = omega arith
depth-push (t ∷ steps) s = omega (arith, depth-push steps s)

-- the same of the first steps of a list
pub depth_more : (steps : List Step) (i : ℕ) (s : Step) → i < length steps → s ≡ get_or steps i s → depth (moves_of (take (i + 1) steps)) ≡ max (depth (moves_of (take i steps))) (reach (deed_of s.act) (depth (inside_of s.act)))
depth_more steps i s inside here =
    ap (λ xs. depth (moves_of xs)) (take_more steps i s inside ∙ ap (λ x. take i steps ++ x ∷ []) (sym here)) ∙ depth-push (take i steps) s
