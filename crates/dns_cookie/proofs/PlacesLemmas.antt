-- Records that stand one behind the other, of which the first OPT record is looked for.
use Rattle.std.proofs.Common.{◌≡◌, ◌≢◌, ℕ, suc, ◌+◌, ◌-◌, ◌<◌, false, List, ◌∷◌, Some, Result, Ok, refl, sym, ap, ◌∙◌, arith}
use Rattle.std.specs.Prelude.{find}
use Rattle.std.proofs.lemmas.Bool.{ne_eqb}
use Rattle.dns_message.proofs.Theorems.{bind_ok}
use Rattle.dns_message.specs.Numbers.{kind_opt}
use Rattle.dns_message.specs.Reading.{items_of}
use Rattle.dns_message.specs.declared.fault.MessageFault.{MessageFault}
use Rattle.dns_message.specs.declared.message.Record.{Record}
use Rattle.edns_opt.specs.Opt.{is_opt}

-- pairs that are one have the same parts
pair_is : (xs ys : List Record) (p q : ℕ) → ◌≡◌ {A = Result (List Record × ℕ) MessageFault} (Ok (xs, p)) (Ok (ys, q)) → (xs ≡ ys) × (p ≡ q)
pair_is xs ys p q e =
    let same : (xs, p) ≡ (ys, q) = cc in
    (ap (λ (pair : List Record × ℕ). pair.0) same, ap (λ (pair : List Record × ℕ). pair.1) same)

-- the first OPT record of so many that are left is that of all
abbrev pub Left : (ℕ → Result (Record × ℕ) MessageFault) → List Record → ℕ → ℕ → ℕ → Type 0
Left item records end count p = (left : List Record) × (items_of item count p ≡ Ok (left, end)) × (find is_opt records ≡ find is_opt left)

module _ (item : ℕ → Result (Record × ℕ) MessageFault) (records : List Record) (end : ℕ) where
  -- the next record that is left, and those behind it
  pub left_more : (count i p : ℕ) → i < count → Left item records end (count - i) p
      → (rr : Record) × (next : ℕ) × (rest : List Record) × (item p ≡ Ok (rr, next)) × (items_of item (count - (i + 1)) next ≡ Ok (rest, end)) × (find is_opt records ≡ find is_opt (rr ∷ rest))
  left_more count i p lt l =
      let k : count - i ≡ suc (count - (i + 1)) = omega arith in
      by_first (rw k at l.1) where
        by_first : items_of item (suc (count - (i + 1))) p ≡ Ok (l.0, end)
            → (rr : Record) × (next : ℕ) × (rest : List Record) × (item p ≡ Ok (rr, next)) × (items_of item (count - (i + 1)) next ≡ Ok (rest, end)) × (find is_opt records ≡ find is_opt (rr ∷ rest))
        by_first e =
            let first = bind_ok (item p) _ (l.0, end) e in
            let others = bind_ok (items_of item (count - (i + 1)) first.0.1) _ (l.0, end) first.2 in
            let same = pair_is (first.0.0 ∷ others.0.0) l.0 others.0.1 end others.2 in
            (first.0.0, first.0.1, others.0.0, first.1, others.1 ∙ ap (λ (n : ℕ). Ok (others.0.0, n)) same.1, l.2 ∙ ap (find is_opt) (sym same.0))

-- a record of another kind isn't found
pub find_on : (rr : Record) (rest : List Record) → rr.kind ≢ kind_opt → find is_opt (rr ∷ rest) ≡ find is_opt rest
find_on rr rest other = let no : is_opt rr ≡ false = ne_eqb rr.kind kind_opt other in rw no refl

pub find_here : (rr : Record) (rest : List Record) → rr.kind ≡ kind_opt → find is_opt (rr ∷ rest) ≡ Some rr
find_here rr rest is = rw is refl
