-- What the precedence of an address says of it: that of ::ffff:0:0/96 is no other row's.
use Rattle.std.proofs.Common.{◌≡◌, ℕ, ◌*◌, ◌/◌, ◌^◌, Bool, true, false, List, [], ◌∷◌, fold, filter, ltb, eqb, refl, sym, ◌∙◌, arith, inl, inr, eq-eqb, ne_eqb}
use Rattle.std.specs.Prelude.{⊤}
use Rattle.std.proofs.lemmas.Bool.{cases_eq, cond_both, eqb-true}
use Rattle.dest_sorting.specs.declared.policy.Policy.{Policy}
use Rattle.dest_sorting.specs.Policy.{table, longer, covers, everything, policy_of}

-- the fact holds of each row
abbrev Each : (Policy → Type 0) → List Policy → Type 0
Each P [] = ⊤
Each P (row ∷ rows) = P row × Each P rows

-- what holds of the start, and of each row that passes, holds of that with the longest prefix
longest_is : (p : Policy → Bool) (P : Policy → Type 0) (start : Policy) (rows : List Policy)
    → P start → Each (λ row. p row ≡ true → P row) rows → P (fold longer start (filter p rows))
longest_is p P start [] here all = here
longest_is p P start (row ∷ rows) here all =
    cond_both {A = List Policy} (p row) (row ∷ filter p rows) (filter p rows) (λ xs. P (fold longer start xs))
    (λ passes. longest_is p P (longer start row) rows (cond_both (ltb start.bits row.bits) row start P (λ _. all.0 passes) (λ _. here)) all.1)
    (λ fails. longest_is p P start rows here all.1)

-- an address in ::ffff:0:0/96 has that row's precedence
mapped_precedence : (a : ℕ) → a / 2 ^ 32 ≡ 0xffff → (policy_of a).precedence ≡ 35
mapped_precedence a within =
    let c1 : covers a (record { prefix = 1; bits = 128; precedence = 50; label = 0 }) ≡ false = ne_eqb _ _ (λ e. omega arith) in
    let c2 : covers a everything ≡ true = eq-eqb _ _ (omega arith) in
    let c3 : covers a (record { prefix = 0xffff * 2 ^ 32; bits = 96; precedence = 35; label = 4 }) ≡ true = eq-eqb _ _ within in
    let c4 : covers a (record { prefix = 0x2002 * 2 ^ 112; bits = 16; precedence = 30; label = 2 }) ≡ false = ne_eqb _ _ (λ e. omega arith) in
    let c5 : covers a (record { prefix = 0x2001 * 2 ^ 112; bits = 32; precedence = 5; label = 5 }) ≡ false = ne_eqb _ _ (λ e. omega arith) in
    let c6 : covers a (record { prefix = 0xfc00 * 2 ^ 112; bits = 7; precedence = 3; label = 13 }) ≡ false = ne_eqb _ _ (λ e. omega arith) in
    let c7 : covers a (record { prefix = 0; bits = 96; precedence = 1; label = 3 }) ≡ false = ne_eqb _ _ (λ e. omega arith) in
    let c8 : covers a (record { prefix = 0xfec0 * 2 ^ 112; bits = 10; precedence = 1; label = 11 }) ≡ false = ne_eqb _ _ (λ e. omega arith) in
    let c9 : covers a (record { prefix = 0x3ffe * 2 ^ 112; bits = 16; precedence = 1; label = 12 }) ≡ false = ne_eqb _ _ (λ e. omega arith) in
    rw (c1, c2, c3, c4, c5, c6, c7, c8, c9) refl

-- an address with that precedence is in ::ffff:0:0/96
precedence_mapped : (a : ℕ) → (policy_of a).precedence ≡ 35 → a / 2 ^ 32 ≡ 0xffff
precedence_mapped a =
    longest_is (covers a) (λ row. row.precedence ≡ 35 → a / 2 ^ 32 ≡ 0xffff) everything table (λ e. omega arith)
    ((λ _ e. omega arith), ((λ _ e. omega arith), ((λ passes e. eqb-true _ _ passes), ((λ _ e. omega arith), ((λ _ e. omega arith), ((λ _ e. omega arith), ((λ _ e. omega arith), ((λ _ e. omega arith), ((λ _ e. omega arith), tt)))))))))

-- whether an address is in ::ffff:0:0/96 is seen from its precedence
pub mapped-precedence : (a : ℕ) → eqb (a / 2 ^ 32) 0xffff ≡ eqb ((policy_of a).precedence) 35
mapped-precedence a = elim (cases_eq (a / 2 ^ 32) 0xffff) [
  | inl within ↦ eq-eqb _ _ within ∙ sym (eq-eqb _ _ (mapped_precedence a within))
  | inr apart ↦ ne_eqb _ _ apart ∙ sym (ne_eqb _ _ (λ e. apart (precedence_mapped a e)))
]
