-- A lookup that is due at a moment, and the first of all.
use Rattle.channel_table.proofs.Base.{◌≡◌, ◌∙◌, ℕ, ◌<◌, Bool, true, List, Option, Some, None, refl, ap, sym, subst, arith, get_or, length, and_parts, get_or_read, option_and_then, IfSome, option_map, Due, leg_of, Flying, IsFirst, Key, IsDueOf, is_due, AreFlown, all_lookups, lookup_at, flying_of, leg_of_lookup, IsSoonest, due_of_lookup, due_of_soonest, Row, Lookup, Flown, Soonest}
use Rattle.std.proofs.Common.{◌==◌}
use Rattle.std.proofs.Common.{◌&&◌}
use Rattle.std.proofs.lemmas.Bool.{eqb-true}
use Rattle.channel_table.proofs.FirstDue.{first_least}
use Rattle.channel_table.specs.DueLookups.{due_lookup, flies_until}

due_so : (leg : Key) (due : ℕ) (lookup : Lookup) → is_due leg due lookup ≡ true → due_of_lookup lookup ≡ Some (record { at = due; leg = leg_of leg.number leg.leg })
due_so leg due lookup e =
    let last = and_parts ((lookup.number == leg.number) && (lookup.leg_number == leg.leg)) (flies_until due (flying_of lookup)) e in
    let two = and_parts (lookup.number == leg.number) (lookup.leg_number == leg.leg) last.0 in
    by_flying (flying_of lookup) last.1 ∙ (λ i. Some (record { at = due; leg = leg_of (eqb-true lookup.number leg.number two.0 i) (eqb-true lookup.leg_number leg.leg two.1 i) }))
  where
    by_flying : (o : Option Flying) → flies_until due o ≡ true → option_map {U = Due} (λ (flying : Flying). record { at = flying.due; leg = leg_of_lookup lookup }) o ≡ Some (record { at = due; leg = leg_of_lookup lookup })
    by_flying None e = absurd cc
    by_flying (Some flying) e = ap (λ (n : ℕ). Some (record { at = n; leg = leg_of_lookup lookup })) (eqb-true flying.due due e)

-- a lookup that is due is that of the row
pub due_found : {T : Type 0} (index : ℕ) (row : Row T) (leg : Key) (due : ℕ) (second : Bool) (lookup : Lookup) → lookup_at second row ≡ Some lookup → is_due leg due lookup ≡ true → IsDueOf index row leg due (due_lookup index second leg due)
due_found index row leg due second lookup at e = record { at_index = refl; is = refl; is_due = ap (option_and_then due_of_lookup) at ∙ due_so leg due lookup e }

-- and the first of the rows, where its deadline is the first that is kept
pub first_found : {T : Type 0} (flown : Flown) (rows : List (Row T)) (index : ℕ) (row : Row T) (leg : Key) (due : ℕ) (o : Option Soonest) → AreFlown flown (all_lookups rows) → IsFirst flown.deadlines leg due → index < length rows → row ≡ get_or rows index row
    → IfSome o (IsDueOf index row leg due) → IfSome o (λ found. IsSoonest rows (Some found))
first_found flown rows index row leg due None are first inside is found = tt
first_found flown rows index row leg due (Some one) are first inside is found = (
  record {
    inside = omega (arith, inside, found.at_index);
    is_due = λ d. subst (λ (n : ℕ). option_and_then due_of_lookup (lookup_at one.is_second (get_or rows n d)) ≡ Some (due_of_soonest one)) (sym found.at_index)
        (subst (λ r. option_and_then due_of_lookup (lookup_at one.is_second r) ≡ Some (due_of_soonest one)) (get_or_read rows index row inside is d) found.is_due);
  },
  first_least flown rows leg due are first ∙ ap Some (sym found.is),
)
