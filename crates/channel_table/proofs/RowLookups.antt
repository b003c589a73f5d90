-- The lookups of one row, and those of others.
use Rattle.channel_table.proofs.Base.{◌≡◌, ◌∙◌, ℕ, ◌+◌, Bool, true, false, List, [], ◌∷◌, Option, Some, None, refl, ap, sym, subst, arith, length, true≢false, false_from_ne_true, AllByRecursion, IfSome, if◌then◌else◌, is_some, option_map, option_to_list, Script, Spares, each-then, is_leg-says, Past, Leg, is_leg, leg_of, Setting, RowStands, LookupStands, lookup_at, lookups, concerned_at, flying_of, concerns, is_flying, leg_of_lookup, number_of_leg, Judged, Flying, What, Row, Lookup, ◌==◌}
use Rattle.channel_table.proofs.RowAt.{lookup_of_each}
use Rattle.channel_table.proofs.TableEnds.{other_leg}
use Rattle.channel_table.proofs.SearchSteps.{legs_within}
use Rattle.channel_table.proofs.LookupLists.{numbers_are}
use Rattle.channel_table.proofs.RowEnds.{Closes, Meets}

pub some_lookup : (a b : Lookup) → ◌≡◌ {A = Option Lookup} (Some a) (Some b) → a ≡ b
some_lookup a b e = cc

pub no_bytes : (b : Bool) → ◌≡◌ {A = List ℕ} (if b then [] else []) []
no_bytes true = refl
no_bytes false = refl

-- what holds of each second lookup holds of the one that is there
pub if_second : {P : Lookup → Type 0} (o : Option Lookup) → ((it : Lookup) → o ≡ Some it → P it) → IfSome o P
if_second None f = tt
if_second (Some it) f = f it refl

module _ {T : Type 0} (plan : T → Script) (setting : Setting) (past : Past) (row : Row T) (stands : RowStands plan setting past row) where
  -- a lookup has the number of its row
  pub lookup_numbered : (second : Bool) (lookup : Lookup) → lookup_at second row ≡ Some lookup → lookup.number ≡ row.number
  lookup_numbered second lookup at = (lookup_of_each (LookupStands setting past row.number stands.spec stands.name stands.rest) row stands.each_lookup second lookup at).numbered

  -- its leg is none of another request
  pub other_lookups : (number leg : ℕ) → (row.number == number) ≡ false → (P : Lookup → Type 0) → ((lookup : Lookup) → is_leg (leg_of_lookup lookup) number leg ≡ false → P lookup) → AllByRecursion P (lookups row)
  other_lookups number leg apart P f =
      each-then (LookupStands setting past row.number stands.spec stands.name stands.rest) P (lookups row)
      (λ lookup s. f lookup (other_leg lookup.number number lookup.leg_number leg (ap (λ n. n == number) s.numbered ∙ apart))) stands.each_lookup

  second_number : (it : Lookup) → row.second ≡ Some it → it.leg_number ≡ row.first.leg_number + 1
  second_number it at =
      let legs = stands.legged ∙ numbers_are row.first row.second ∙ ap (λ (o : Option Lookup). row.first.leg_number ∷ option_to_list (option_map number_of_leg o)) at in
      let within = legs_within stands.spec (length stands.passed) row.first.leg_number (Some it.leg_number) legs in
      omega (arith, within.2.0, within.2.1)

  -- the legs of its two lookups are two
  pub legs_differ : (it : Lookup) → row.second ≡ Some it → leg_of_lookup it ≡ leg_of_lookup row.first → ⊥
  legs_differ it at same = absurd (omega (arith, second_number it at, ap (λ (l : Leg). l.number) same))

  -- and so are those of any two
  pub other_differs : (second : Bool) (lookup it : Lookup) → lookup_at second row ≡ Some lookup → lookup_at (if second then false else true) row ≡ Some it → leg_of_lookup it ≡ leg_of_lookup lookup → ⊥
  other_differs false lookup it x y same = legs_differ it y (same ∙ sym (ap leg_of_lookup (some_lookup row.first lookup x)))
  other_differs true lookup it x y same = legs_differ lookup x (sym same ∙ sym (ap leg_of_lookup (some_lookup row.first it y)))

  -- where one of its lookups has a leg, the other has not
  pub other_of_row : (number leg : ℕ) (second : Bool) (lookup it : Lookup) → lookup_at second row ≡ Some lookup → lookup_at (if second then false else true) row ≡ Some it → leg_of_lookup lookup ≡ leg_of number leg → is_leg (leg_of_lookup it) number leg ≡ false
  other_of_row number leg second lookup it x y own =
      false_from_ne_true (is_leg (leg_of_lookup it) number leg) (λ is. other_differs second lookup it x y (is_leg-says (leg_of_lookup it) number leg is ∙ sym own))

  -- an entry that closes the attempt of one of its lookups, and leaves the other, meets both
  module _ (what : What) (judged : Judged) (bytes : List ℕ) (flying : Flying) where
    pub meets_at : (second : Bool) (lookup : Lookup) → lookup_at second row ≡ Some lookup → flying_of lookup ≡ Some flying → Closes setting what past (concerned_at second) judged lookup bytes
        → ((it : Lookup) → lookup_at (if second then false else true) row ≡ Some it → Spares setting what past (leg_of_lookup it))
        → (other : Bool) (it : Lookup) → lookup_at other row ≡ Some it → (brought : List ℕ) → (other ≡ second → brought ≡ bytes) → Meets setting what past (concerned_at second) judged other brought it
    meets_at false lookup x flies closed spared false it y brought same =
        let one = some_lookup lookup it (sym x ∙ y) in
        record {
          hit = λ h. subst (λ (s : Lookup). Closes setting what past (concerned_at false) judged s brought) one (subst (Closes setting what past (concerned_at false) judged lookup) (sym (same refl)) closed);
          missed = λ m. absurd (true≢false (sym (ap is_flying (sym one) ∙ ap is_some flies) ∙ m));
        }
    meets_at true lookup x flies closed spared true it y brought same =
        let one = some_lookup lookup it (sym x ∙ y) in
        record {
          hit = λ h. subst (λ (s : Lookup). Closes setting what past (concerned_at true) judged s brought) one (subst (Closes setting what past (concerned_at true) judged lookup) (sym (same refl)) closed);
          missed = λ m. absurd (true≢false (sym (ap is_flying (sym one) ∙ ap is_some flies) ∙ m));
        }
    meets_at false lookup x flies closed spared true it y brought same = record { hit = λ h. absurd (true≢false (sym h)); missed = λ m. spared it y }
    meets_at true lookup x flies closed spared false it y brought same = record { hit = λ h. absurd (true≢false (sym h)); missed = λ m. spared it y }

    -- what the second lookup is brought, where it is the one
    pub brought_second : (second : Bool) (reply : List ℕ) → true ≡ second → (if concerns (concerned_at second) false row.first then [] else reply) ≡ reply
    brought_second second reply e = subst (λ b. (if concerns (concerned_at b) false row.first then [] else reply) ≡ reply) e refl
