-- Entries by numbers: which is the first with a number, in lists one behind the other, and what the map of all of them says.
use Rattle.channel_table.proofs.Base.{◌≡◌, ◌∙◌, ℕ, Bool, true, false, cond, List, [], ◌∷◌, ◌++◌, Option, Some, None, refl, ap, ap₂, sym, arith, nat_tests, option_or, eq_by_cmp, nat_cmp}
use Rattle.std.proofs.Common.{◌==◌}
use Rattle.std.specs.Cmp.{nat_cmp_total}
use Rattle.std.specs.FinMap as map

same_number : (x y : ℕ) → eq_by_cmp nat_cmp x y ≡ (y == x)
same_number x y = grind (arith, nat_tests)

-- ---- options one behind the other

pub or_none : {A : Type 0} (o : Option A) → option_or o None ≡ o
or_none None = refl
or_none (Some x) = refl

-- an option that is none with another behind it is none itself
pub none_of_or : {A : Type 0} (o p : Option A) → option_or o p ≡ None → o ≡ None
none_of_or None p e = refl
none_of_or (Some x) p e = absurd cc

module _ {A : Type 0} (v : A) where
  -- what comes first in one of two stays first in both
  pub or_front : (b : Bool) (o p : Option A) → option_or (cond b (Some v) o) p ≡ cond b (Some v) (option_or o p)
  or_front true o p = refl
  or_front false o p = refl

  -- what stands behind another that then has none is as good as before it
  pub or_behind : (b : Bool) (o p : Option A) → (b ≡ true → o ≡ None) → option_or o (cond b (Some v) p) ≡ cond b (Some v) (option_or o p)
  or_behind true o p none = rw (none refl) refl
  or_behind false o p none = refl

  -- what moves from its place to the end, where nothing behind it has the number
  pub or_moved : (b : Bool) (before behind last : Option A) → (b ≡ true → behind ≡ None) → (b ≡ true → last ≡ None)
      → option_or (option_or before (cond b (Some v) behind)) last ≡ option_or (option_or before behind) (option_or last (cond b (Some v) None))
  or_moved b (Some x) behind last none none_last = refl
  or_moved true None behind last none none_last = rw (none refl, none_last refl) refl
  or_moved false None behind last none none_last = ap (option_or behind) (sym (or_none last))

  -- what comes to the end of the first of two, or of the second, where neither has the number
  pub or_put : (b : Bool) (o p : Option A) → (b ≡ true → o ≡ None) → option_or (option_or o (cond b (Some v) None)) p ≡ cond b (Some v) (option_or o p)
  or_put true o p none = rw (none refl) refl
  or_put false o p none = ap (λ k. option_or k p) (or_none o)

  pub or_last : (b : Bool) (o p : Option A) → (b ≡ true → o ≡ None) → (b ≡ true → p ≡ None)
      → option_or o (option_or p (cond b (Some v) None)) ≡ cond b (Some v) (option_or o p)
  or_last true o p none none_too = rw (none refl, none_too refl) refl
  or_last false o p none none_too = ap (option_or o) (or_none p)

-- two of which at most one has something are the same in either order
pub or_swapped : {A : Type 0} (o p : Option A) → ((x : A) → o ≡ Some x → p ≡ None) → option_or o p ≡ option_or p o
or_swapped None p apart = sym (or_none p)
or_swapped (Some x) p apart = rw (apart x refl) refl

-- ---- entries

-- the first with the number
abbrev pub value_of : {A : Type 0} → ℕ → List (ℕ × A) → Option A
value_of number [] = None
value_of number (e ∷ es) = cond (e.0 == number) (Some e.1) (value_of number es)

module _ {A : Type 0} where
  pub value-append : (number : ℕ) (es fs : List (ℕ × A)) → value_of number (es ++ fs) ≡ option_or (value_of number es) (value_of number fs)
  value-append number [] fs = refl
  value-append number (e ∷ es) fs = ap (cond (e.0 == number) (Some e.1)) (value-append number es fs)
      ∙ sym (or_front e.1 (e.0 == number) (value_of number es) (value_of number fs))

  -- the map of the entries has the first of them at each number
  found-value : (number : ℕ) (es : List (ℕ × A)) → map.find nat_cmp number es ≡ value_of number es
  found-value number [] = refl
  found-value number (e ∷ es) = ap₂ (λ b o. cond b (Some e.1) o) (same_number number e.0) (found-value number es)

  pub get-value : (es : List (ℕ × A)) (number : ℕ) → map.get (map.from_entries {R = nat_cmp} es) number ≡ value_of number es
  get-value es number = map.get-from_entries nat_cmp_total es number ∙ found-value number es

  -- entries that have the same at each number make one map
  pub same_tokens : (es fs : List (ℕ × A)) → ((number : ℕ) → value_of number es ≡ value_of number fs) → map.from_entries {R = nat_cmp} es ≡ map.from_entries fs
  same_tokens es fs same = map.same_map nat_cmp_total map.nat_cmp-IsAntisymmetric _ _ (λ number. get-value es number ∙ same number ∙ sym (get-value fs number))

  -- the map with one more
  pub one_put : (es fs : List (ℕ × A)) (key : ℕ) (v : A) → ((number : ℕ) → value_of number fs ≡ cond (key == number) (Some v) (value_of number es))
      → map.from_entries {R = nat_cmp} fs ≡ map.insert (map.from_entries es) key v
  one_put es fs key v put = map.same_map nat_cmp_total map.nat_cmp-IsAntisymmetric _ _ (λ number.
      get-value fs number ∙ put number
      ∙ sym (map.get-insert nat_cmp_total (map.from_entries es) key v number ∙ ap₂ (λ b o. cond b (Some v) o) (same_number number key) (get-value es number)))

  -- and without one
  pub one_out : (es fs : List (ℕ × A)) (key : ℕ) → ((number : ℕ) → value_of number fs ≡ cond (key == number) None (value_of number es))
      → map.from_entries {R = nat_cmp} fs ≡ map.remove (map.from_entries es) key
  one_out es fs key left = map.same_map nat_cmp_total map.nat_cmp-IsAntisymmetric _ _ (λ number.
      get-value fs number ∙ left number
      ∙ sym (map.get-remove nat_cmp_total (map.from_entries es) key number ∙ ap₂ (λ b o. cond b None o) (same_number number key) (get-value es number)))
