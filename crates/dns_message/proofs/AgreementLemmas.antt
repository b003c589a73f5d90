-- The two ways to say which name a text is, and which labels are one, agree.
use Rattle.std.proofs.Common.{◌≡◌, ◌≢◌, ℕ, zero, suc, ◌+◌, ◌-◌, ◌<◌, ◌≤◌, Bool, true, false, cond, eqb, ltb, List, [], ◌∷◌, ◌++◌, length, Option, Some, None, Ok, Err, inl, inr, refl, ap, sym, ◌∙◌, arith, append_assoc, append-nil, codes}
use Rattle.std.specs.Prelude.{option_map, ◌⊎◌}
use Rattle.std.specs.Option.{option_and_then}
use Rattle.std.specs.Result.{result_ok}
use Rattle.std.specs.Str.{bytes_eq}
use Rattle.std.proofs.lemmas.List.{length-append}
use Rattle.std.proofs.lemmas.Bool.Decides.{nat_tests}
use Rattle.dns_message.specs.Name.{IsName, wire_length}
use Rattle.dns_message.specs.NameText.{first_unit, units_within, units_of, label_before, dot_before, name_text, is_name}
use Rattle.dns_message.specs.NameFaults.{Spot, dot, byte, bad, spot, spots_by, spots_within, spots_of, and_then, with_label, name_on, name_read, labels_on, labels_read}
use Rattle.dns_message.specs.declared.name_text.TextUnit.{TextUnit}
use Rattle.dns_message.specs.declared.name_text.TextUnit.TheVariants.{Dot, Byte}
use Rattle.dns_message.specs.declared.fault.NameFault.{NameFault}
use Rattle.dns_message.specs.declared.fault.NameFault.TheVariants.{EmptyLabel, LongLabel, LongName}
use Rattle.dns_message.proofs.UnitLemmas.{first_shorter}
use Rattle.dns_message.proofs.NameLemmas.{pushed}
use Rattle.dns_message.proofs.PieceLemmas.{label_more, name_passes, spoils, Spoils, continued, continued_more, continued_end, continued_dot, continued_none, continued_spoilt}

-- ---- the units, with their places and without

-- the units without their places; there are none where one is bad
abbrev units_in : List Spot → Option (List TextUnit)
units_in [] = Some []
units_in (dot p ∷ spots) = option_map (λ units. Dot ∷ units) (units_in spots)
units_in (byte p b ∷ spots) = option_map (λ units. Byte b ∷ units) (units_in spots)
units_in (bad p ∷ spots) = None

one_unit : (p : ℕ) (unit : TextUnit) (spots : List Spot) → units_in (spot p unit ∷ spots) ≡ option_map (λ units. unit ∷ units) (units_in spots)
one_unit p Dot spots = refl
one_unit p (Byte b) spots = refl

same_units : (n p : ℕ) (text : List ℕ) → length text ≤ n → units_in (spots_within n p text) ≡ units_within n text
same_units n p [] fits = refl
same_units zero p (c ∷ text) fits = absurd (omega arith)
same_units (suc n) p (c ∷ text) fits =
    by_first (first_unit c text) (λ found e q.
    let less : length found.1 ≤ length text = first_shorter c text found e in
    same_units n q found.1 (omega arith)) where
      by_first : (first : Option (TextUnit × List ℕ)) → ((found : TextUnit × List ℕ) → first ≡ Some found → (q : ℕ) → units_in (spots_within n q found.1) ≡ units_within n found.1)
          → units_in (spots_by (spots_within n) p text first) ≡ option_and_then (λ found. option_map (λ units. found.0 ∷ units) (units_within n found.1)) first
      by_first None same = refl
      by_first (Some found) same =
          one_unit p found.0 (spots_within n (p + 1 + (length text - length found.1)) found.1)
          ∙ ap (option_map (λ units. found.0 ∷ units)) (same found refl (p + 1 + (length text - length found.1)))

-- ---- a label behind those in front

-- it joins them as a name, or spoils it
joins_or : (front : List (List ℕ)) (start : ℕ) (label : List ℕ) (end : ℕ) → IsName front → length label ≤ 63
    → ((with_label front start label end ≡ Ok (front ++ label ∷ [])) × IsName (front ++ label ∷ [])) ⊎ ((fault : NameFault) × (with_label front start label end ≡ Err fault) × Spoils front label)
joins_or front start label end name few = by_tests (eqb (length label) 0) refl (ltb 255 (wire_length front + length label + 1)) refl where
  by_tests : (none : Bool) → eqb (length label) 0 ≡ none → (long : Bool) → ltb 255 (wire_length front + length label + 1) ≡ long
      → ((with_label front start label end ≡ Ok (front ++ label ∷ [])) × IsName (front ++ label ∷ [])) ⊎ ((fault : NameFault) × (with_label front start label end ≡ Err fault) × Spoils front label)
  by_tests true e long l =
      let no_bytes : length label ≡ 0 = grind (arith, nat_tests, e) in
      inr (EmptyLabel end, rw e refl, inl no_bytes)
  by_tests false e true l =
      let wide : 255 < wire_length front + length label + 1 = grind (arith, nat_tests, l) in
      inr (LongName start, rw (e, l) refl, inr (inr wide))
  by_tests false e false l =
      let room : wire_length front + length label + 1 ≤ 255 = grind (arith, nat_tests, l) in
      let some : 1 ≤ length label = grind (arith, nat_tests, e) in
      inl (rw (e, l) refl, (pushed front label (wire_length front) (name, refl) (record { some = some; few = few }) room).0)

-- ---- the name of units

no_end : (unit : TextUnit) (units : Option (List TextUnit)) → option_map (λ us. unit ∷ us) units ≢ Some []
no_end unit None e = absurd cc
no_end unit (Some units) e = absurd cc

some_more : (first : Spot) (spots : List Spot) → units_in (first ∷ spots) ≢ Some []
some_more (dot p) spots e = no_end Dot (units_in spots) e
some_more (byte p b) spots e = no_end (Byte b) (units_in spots) e
some_more (bad p) spots e = absurd cc

none_before : (units : Option (List TextUnit)) → label_before [] units ≡ units
none_before None = refl
none_before (Some units) = refl

module _ (text : ℕ) where
  on_agrees : (front : List (List ℕ)) (start : ℕ) (label : List ℕ) (spots : List Spot) → IsName front → length label ≤ 63
      → result_ok (name_on text front start label spots) ≡ continued front (label_before label (units_in spots))
  on_agrees front start label [] name few = elim (joins_or front start label text name few) [
    | inl joins ↦ rw (joins.0) (sym (continued_end front label joins.1))
    | inr stops ↦ rw (stops.1) (sym (continued_spoilt front label (label_before label (Some [])) (inl refl) stops.2))
  ]
  on_agrees front start label (bad p ∷ spots) name few = refl
  on_agrees front start label (byte p b ∷ spots) name few = by_test (eqb (length label) 63) refl (λ fits. on_agrees front start (label ++ b ∷ []) spots name fits) where
    by_test : (long : Bool) → eqb (length label) 63 ≡ long
        → (length (label ++ b ∷ []) ≤ 63 → result_ok (name_on text front start (label ++ b ∷ []) spots) ≡ continued front (label_before (label ++ b ∷ []) (units_in spots)))
        → result_ok (cond long (Err (LongLabel p)) (name_on text front start (label ++ b ∷ []) spots)) ≡ continued front (label_before label (option_map (λ units. Byte b ∷ units) (units_in spots)))
    by_test true e more =
        let full : length label ≡ 63 = grind (arith, nat_tests, e) in
        sym (continued_none front (label_before label (option_map (λ units. Byte b ∷ units) (units_in spots)))
        (inr (label ++ b ∷ [], units_in spots, omega (arith, length-append label (b ∷ []), full), label_more label b (units_in spots))))
    by_test false e more =
        let room : length label ≢ 63 = grind (arith, nat_tests, e) in
        more (omega (arith, length-append label (b ∷ []))) ∙ ap (continued front) (sym (label_more label b (units_in spots)))
  on_agrees front start label (dot p ∷ []) name few = elim (joins_or front start label p name few) [
    | inl joins ↦ rw (joins.0) (sym (continued_dot front label joins.1))
    | inr stops ↦ rw (stops.1) (sym (continued_spoilt front label (label_before label (dot_before (Some []))) (inr (Some [], refl)) stops.2))
  ]
  on_agrees front start label (dot p ∷ next ∷ spots) name few = elim (joins_or front start label p name few) [
    | inl joins ↦ rw (joins.0) (on_agrees (front ++ label ∷ []) (p + 1) [] (next ∷ spots) joins.1 (omega arith)
        ∙ ap (continued (front ++ label ∷ [])) (none_before (units_in (next ∷ spots)))
        ∙ sym (continued_more front label (units_in (next ∷ spots)) (some_more next spots)))
    | inr stops ↦ rw (stops.1) (sym (continued_spoilt front label (label_before label (dot_before (units_in (next ∷ spots)))) (inr (units_in (next ∷ spots), refl)) stops.2))
  ]

root_name : IsName []
root_name = record { each = tt; short = omega arith }

-- a text has a name exactly where its reading gives one, and that one
pub readings_agree : (text : List ℕ) → result_ok (name_read text) ≡ name_text text
unfolding units_of spots_of
readings_agree text = by_test (bytes_eq text (codes ".")) where
  by_test : (root : Bool) → result_ok (cond root (Ok ([], true)) (name_on (length text) [] 0 [] (spots_of 0 text))) ≡ cond root (Some ([], true)) (continued [] (units_of text))
  by_test true = refl
  by_test false =
      on_agrees (length text) [] 0 [] (spots_of 0 text) root_name (omega arith)
      ∙ ap (continued []) (none_before (units_in (spots_of 0 text)) ∙ same_units (length text) 0 text (omega arith))

-- ---- the name of labels

-- the labels, where they are a name
abbrev if_name : List (List ℕ) → Option (List (List ℕ))
if_name labels = cond (is_name labels) (Some labels) None

labels_agree : (front : List (List ℕ)) (i : ℕ) (labels : List (List ℕ)) → IsName front → result_ok (labels_on front i labels) ≡ if_name (front ++ labels)
labels_agree front i [] name = rw (append-nil, name_passes front name) refl
labels_agree front i (label ∷ labels) name = by_test (ltb 63 (length label)) refl (λ joined. labels_agree (front ++ label ∷ []) (i + 1) labels joined) where
  by_test : (long : Bool) → ltb 63 (length label) ≡ long
      → (IsName (front ++ label ∷ []) → result_ok (labels_on (front ++ label ∷ []) (i + 1) labels) ≡ if_name ((front ++ label ∷ []) ++ labels))
      → result_ok (cond long (Err (LongLabel i)) (and_then (with_label front i label i) (λ front. labels_on front (i + 1) labels))) ≡ if_name (front ++ label ∷ labels)
  by_test true e more =
      let long : 63 < length label = grind (arith, nat_tests, e) in
      rw (spoils front label labels (inr (inl long))) refl
  by_test false e more =
      let few : length label ≤ 63 = grind (arith, nat_tests, e) in
      elim (joins_or front i label i name few) [
        | inl joins ↦ rw (joins.0) (more joins.1 ∙ ap if_name (append_assoc front (label ∷ []) labels))
        | inr stops ↦ rw (stops.1, spoils front label labels stops.2) refl
      ]

-- labels are a name exactly where their reading gives one, and that one
pub labels_readings_agree : (labels : List (List ℕ)) → result_ok (labels_read labels) ≡ if_name labels
labels_readings_agree labels = labels_agree [] 0 labels root_name
