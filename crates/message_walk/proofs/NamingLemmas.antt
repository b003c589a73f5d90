-- Names that agree, by their bytes.
use Rattle.std.proofs.Common.{◌≡◌, ℕ, ◌+◌, ◌-◌, ◌≤◌, ◌&&◌, ◌==◌, Bool, true, false, IsTrue, List, [], ◌∷◌, ◌++◌, length, drop, refl, sym, ap, ◌∙◌, arith}
use Rattle.std.specs.Bool.{Decides}
use Rattle.std.specs.List.{AllByRecursion}
use Rattle.std.specs.Cmp.Lexicographic.{bytes_decides, pointwise_decides}
use Rattle.std.proofs.lemmas.Grind.{flat_map-append}
use Rattle.dns_message.proofs.Theorems.{labels_back, labels_length, one_test, same_bytes, same_is, same_labels}
use Rattle.dns_message.specs.Name.{IsLabel, IsName, SameName, wire_length}
use Rattle.dns_message.specs.Wire.{IsWire, label_bytes, labels_in, wire_bytes}
use Rattle.message_walk.specs.Matching.{SameBytes, agrees, is_front}
use Rattle.message_walk.proofs.FrontLemmas.{front_append, whole_says}

-- labels behind labels are labels
each_append : (xs ys : List (List ℕ)) → AllByRecursion IsLabel xs → AllByRecursion IsLabel ys → AllByRecursion IsLabel (xs ++ ys)
each_append [] ys p q = q
each_append (x ∷ xs) ys p q = (p.0, each_append xs ys p.1 q)

-- names agree where their bytes are the same
names_say : (exact : Bool) (labels others : List (List ℕ)) → IsName labels → IsName others → (r : Bool) → Decides r (SameBytes exact (wire_bytes others) (wire_bytes labels)) → r ≡ agrees exact labels others
names_say true labels others name other r says = one_test r _ (is, back) (pointwise_decides bytes_decides labels others) where
  is : IsTrue r → labels ≡ others
  is h = sym (labels_back labels) ∙ ap labels_in (sym (says.0 h)) ∙ labels_back others

  back : labels ≡ others → IsTrue r
  back e = says.1 (ap wire_bytes (sym e))
names_say false labels others name other r says = same_is r labels others (is, back) where
  is : IsTrue r → SameName labels others
  is h = same_labels (wire_bytes labels) (wire_bytes others) labels others refl refl name other (sym (says.0 h))

  back : SameName labels others → IsTrue r
  back e = says.1 (sym (same_bytes (wire_bytes labels) (wire_bytes others) labels others refl refl name other e))

-- the labels that were met so far: how many bytes they take, and whether the wire form begins with them
pub record Met (exact : Bool) (wire : List ℕ) (taken : ℕ) (same : Bool) (front : List (List ℕ)) : Type 0 where
  pub long : wire_length front ≡ taken
  pub each : AllByRecursion IsLabel front
  pub is : same ≡ is_front exact (wire_bytes front) wire

-- no label yet
pub met_none : (exact : Bool) (wire : List ℕ) → Met exact wire 1 true []
met_none exact wire = record { long = refl; each = tt; is = refl }

-- a run more
pub met_more : (exact : Bool) (wire : List ℕ) (taken : ℕ) (same : Bool) (front : List (List ℕ)) (run : List ℕ) (many more : ℕ) → Met exact wire taken same front → IsWire run many
    → wire_length (front ++ labels_in run) ≡ taken + more → Met exact wire (taken + more) (same && is_front exact run (drop (taken - 1) wire)) (front ++ labels_in run)
met_more exact wire taken same front run many more met is long =
    let bytes : wire_bytes (front ++ labels_in run) ≡ wire_bytes front ++ run = flat_map-append label_bytes front (labels_in run) ∙ ap (λ (rest : List ℕ). wire_bytes front ++ rest) (sym is.spelled) in
    let before : taken - 1 ≡ length (wire_bytes front) = omega (arith, met.long, labels_length front) in
    record {
      long = long;
      each = each_append front (labels_in run) met.each is.name.each;
      is = rw (bytes, before, met.is) (sym (front_append exact (wire_bytes front) run wire));
    }

-- at the end the labels are the name's, if they are as long
pub met_all : (exact : Bool) (wire : List ℕ) (taken : ℕ) (same : Bool) (front name : List (List ℕ)) → Met exact wire taken same front → taken ≤ 255 → wire ≡ wire_bytes name → IsName name
    → (same && (taken - 1 == length wire)) ≡ agrees exact front name
met_all exact wire taken same front name met few is other =
    let before : taken - 1 ≡ length (wire_bytes front) = omega (arith, met.long, labels_length front) in
    let test : (same && (taken - 1 == length wire)) ≡ (is_front exact (wire_bytes front) (wire_bytes name) && (length (wire_bytes front) == length (wire_bytes name))) = rw (before, met.is, is) refl in
    test ∙ names_say exact front name (record { each = met.each; short = omega (arith, met.long) }) other _ (whole_says exact (wire_bytes front) (wire_bytes name))
