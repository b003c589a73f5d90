-- How the logic stores a script, and how large it is: each script is larger than those inside it. Machinery, which no promise speaks of.
use Rattle.std.specs.Prelude.{ℕ, ◌+◌, ◌≡◌}
use Rattle.std.specs.Coded.{Coded, code_by, coded×, coded_ℕ, codes}
use Rattle.std.proofs.Common.{ap, refl}
use base.Stored.{Gv, gnil, gnum, gcons}
use Rattle.chan_types.specs.declared.orders.When.{When}
use Rattle.chan_types.specs.declared.orders.Need.{Need}
use Rattle.chan_types.specs.Plans.{Plan, Moves, Deed, stop, step}

-- every step counts, those inside too
abbrev pub moves_size : Moves → ℕ
moves_size stop = 1
moves_size (step when need deed inside rest) = moves_size inside + moves_size rest + 1

-- the size of a script is that of its moves
abbrev pub plan_size : Plan → ℕ
plan_size plan = moves_size plan.moves

-- a step's own data has a code
pub head_code : Coded (When × Need × Deed)
head_code = hlevel codes

-- the left part of a stored pair
first : Gv → Gv
first gnil = gnil
first (gnum n) = gnil
first (gcons a b) = a

-- the right part of a stored pair
second : Gv → Gv
second gnil = gnil
second (gnum n) = gnil
second (gcons a b) = b

-- steps are stored as nested pairs
pub moves_stored : Moves → Gv
moves_stored stop = gnil
moves_stored (step when need deed inside rest) =
    gcons (head_code.code (when, need, deed)) (gcons (moves_stored inside) (moves_stored rest))

-- steps that are stored alike are the same
pub moves_apart : (x y : Moves) → moves_stored x ≡ moves_stored y → x ≡ y
unfolding moves_stored first second
moves_apart stop stop p = refl
moves_apart stop (step w n d i r) p = cc
moves_apart (step w n d i r) stop p = cc
moves_apart (step w n d i r) (step w' n' d' i' r') p =
    let a : ◌≡◌ {A = When × Need × Deed} (w, n, d) (w', n', d') = head_code.inj (w, n, d) (w', n', d') (ap first p) in
    let b : i ≡ i' = moves_apart i i' (ap (λ g. first (second g)) p) in
    let c : r ≡ r' = moves_apart r r' (ap (λ g. second (second g)) p) in
    λ k. step (a k).0 (a k).1 (a k).2 (b k) (c k)

-- the code of steps
pub moves_code : Coded Moves
moves_code = record { code = moves_stored; inj = moves_apart }

-- the code of a script: that of its tag and its steps
abbrev pub plan_code : Coded Plan
plan_code =
    code_by (ℕ × Moves) (coded× coded_ℕ moves_code) (λ plan. (plan.tag, plan.moves)) (λ p. record { tag = p.0; moves = p.1 }) (λ _. refl)
