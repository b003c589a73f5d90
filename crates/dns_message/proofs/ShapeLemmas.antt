-- The test of a shape: rdata that is held passes it exactly where it is made of the shape's parts.
use Rattle.std.proofs.Common.{◌≡◌, ℕ, zero, suc, ◌+◌, ◌-◌, ◌≤◌, true, false, eqb, ltb, leb, List, [], ◌∷◌, ◌++◌, length, take, drop, Option, Some, None, inl, inr, refl, ap, sym, ◌∙◌, arith, append_assoc}
use Rattle.std.specs.Prelude.{option_map, is_some}
use Rattle.std.specs.Bool.{Decides}
use Rattle.std.specs.Option.{option_and_then}
use Rattle.std.specs.List.{flat_map, AllByRecursion}
use Rattle.std.proofs.Math.Seq.{drop-append_seam}
use Rattle.std.proofs.lemmas.Bool.{leb-true, le-leb, eqb-true, eq-eqb}
use Rattle.std.proofs.lemmas.Bool.Decides.{nat_tests, Decides-and, Decides-like}
use Rattle.std.proofs.lemmas.List.{length-append, length-drop, length-take-le, take-append-drop}
use Rattle.std.proofs.lemmas.List.Concat.{flat_map-cons}
use Rattle.std.proofs.lemmas.Option.{same_Some}
use Rattle.dns_message.specs.Name.{IsLabel, IsName, wire_length}
use Rattle.dns_message.specs.Spelling.{label_bytes, name_bytes}
use Rattle.dns_message.specs.Shapes.{strings_within, strings_of, is_two}
use Rattle.dns_message.specs.Validity.{behind_within, behind_room, behind_names, are_left, holds_names, holds_shape, string_bytes, HoldsStrings, HoldsNames, HasShape}
use Rattle.dns_message.specs.declared.shape.NamesShape.{NamesShape}
use Rattle.dns_message.specs.declared.shape.Shape.{Shape}
use Rattle.dns_message.specs.declared.shape.Shape.TheVariants as shapes
use Rattle.dns_message.proofs.NameLemmas.{wire_some}
use Rattle.dns_message.proofs.PlainLemmas.{behind_cons}
use Rattle.dns_message.proofs.RunLemmas.{chosen}
use Rattle.dns_message.proofs.StringLemmas.{strings_cons}

-- what a value is that was mapped
mapped : {A B : Type 0} (f : A → B) (o : Option A) (y : B) → option_map f o ≡ Some y → (x : A) × (o ≡ Some x) × (f x ≡ y)
mapped f None y e = absurd cc
mapped f (Some x) y e = (x, refl, same_Some (f x) y e)

-- ---- strings

-- bytes that are counted as strings are so many
strings_found : (n : ℕ) (bytes : List ℕ) (count : ℕ) → strings_within n bytes ≡ Some count → HoldsStrings count bytes
strings_found n [] count e = ([], same_Some 0 count e, refl)
strings_found zero (len ∷ bytes) count e = absurd cc
strings_found (suc n) (len ∷ bytes) count e = elim (chosen (ltb (length bytes) len) _ _ _ e) [
  | inl cut ↦ absurd (let h = cut.1 in cc)
  | inr fits ↦ (let more = mapped (λ count. count + 1) (strings_within n (drop len bytes)) count fits.1 in
      let within : len ≤ length bytes = by_test fits.0 in
      add within (strings_found n (drop len bytes) more.0 more.1) more.2)
] where
  by_test : ltb (length bytes) len ≡ false → len ≤ length bytes
  by_test e = grind (arith, nat_tests, e)

  add : {k : ℕ} → len ≤ length bytes → HoldsStrings k (drop len bytes) → k + 1 ≡ count → HoldsStrings count (len ∷ bytes)
  add within (strings, many, parts) one = (
    take len bytes ∷ strings,
    omega (arith, many, one),
    rw (flat_map-cons string_bytes (take len bytes) strings, length-take-le len bytes within) (ap (λ (rest : List ℕ). len ∷ rest) (sym (take-append-drop len bytes) ∙ ap (λ (rest : List ℕ). take len bytes ++ rest) parts)),
  )

strings_none : strings_of [] ≡ Some 0
unfolding strings_of
strings_none = refl

-- strings are counted
strings_pass : (strings : List (List ℕ)) → strings_of (flat_map string_bytes strings) ≡ Some (length strings)
strings_pass [] = strings_none
strings_pass (string ∷ strings) =
    let fits : ltb (length (string ++ flat_map string_bytes strings)) (length string) ≡ false = no_cut in
    rw (flat_map-cons string_bytes string strings, strings_cons (length string) (string ++ flat_map string_bytes strings), fits, drop-append_seam string (flat_map string_bytes strings), strings_pass strings) (ap (λ (k : ℕ). Some k) (omega arith)) where
      no_cut : ltb (length (string ++ flat_map string_bytes strings)) (length string) ≡ false
      no_cut = let long = length-append string (flat_map string_bytes strings) in grind (arith, nat_tests, long)

strings_read : (bytes : List ℕ) (count : ℕ) → strings_of bytes ≡ Some count → HoldsStrings count bytes
unfolding strings_of
strings_read bytes count e = strings_found (length bytes) bytes count e

strings_say : (bytes : List ℕ) (count : ℕ) → (strings_of bytes ≡ Some count → HoldsStrings count bytes) × (HoldsStrings count bytes → strings_of bytes ≡ Some count)
strings_say bytes count = (strings_read bytes count, passes) where
  passes : HoldsStrings count bytes → strings_of bytes ≡ Some count
  passes (strings, many, parts) = rw parts (strings_pass strings ∙ ap (λ (k : ℕ). Some k) many)

-- ---- names

-- a name that begins with a label
name_cons : (label : List ℕ) (labels : List (List ℕ)) (rest : List ℕ) → name_bytes (label ∷ labels) ++ rest ≡ length label ∷ (label ++ (name_bytes labels ++ rest))
name_cons label labels rest =
    let others = flat_map label_bytes labels in
    ap (λ (all : List ℕ). (all ++ 0 ∷ []) ++ rest) (flat_map-cons label_bytes label labels)
    ∙ ap (λ (tail : List ℕ). length label ∷ tail) (ap (λ (front : List ℕ). front ++ rest) (append_assoc label others (0 ∷ [])) ∙ append_assoc label (others ++ 0 ∷ []) rest)

-- the name that stands in front of bytes, in so much room
abbrev NameFront : ℕ → List ℕ → List ℕ → Type 0
NameFront room bytes rest = (labels : List (List ℕ)) × AllByRecursion IsLabel labels × (wire_length labels ≤ room) × (bytes ≡ name_bytes labels ++ rest)

-- the root
root_front : (room len : ℕ) (bytes rest : List ℕ) → eqb room 0 ≡ false → eqb len 0 ≡ true → ◌≡◌ {A = Option (List ℕ)} (Some bytes) (Some rest) → NameFront room (len ∷ bytes) rest
root_front room len bytes rest some root e =
    let zero : len ≡ 0 = eqb-true len 0 root in
    let same : bytes ≡ rest = same_Some bytes rest e in
    ([], tt, grind (arith, nat_tests, some), rw (zero, same) refl)

-- a label in front of a name
label_front : (room len : ℕ) (bytes rest : List ℕ) → eqb room 0 ≡ false → eqb len 0 ≡ false → ltb 63 len ≡ false → NameFront (room - (len + 1)) (drop len bytes) rest → NameFront room (len ∷ bytes) rest
label_front room len bytes rest has some few (labels, each, short, parts) =
    let within : len ≤ length bytes = omega (arith, length-drop len bytes, ap length parts, length-append (name_bytes labels) rest, length-append (flat_map label_bytes labels) (0 ∷ [])) in
    let long : length (take len bytes) ≡ len = length-take-le len bytes within in
    let one : 1 ≤ len = grind (arith, nat_tests, some) in
    let most : len ≤ 63 = grind (arith, nat_tests, few) in (
      take len bytes ∷ labels,
      (record { some = omega (arith, long, one); few = omega (arith, long, most) }, each),
      omega (arith, long, short, wire_some labels),
      rw (name_cons (take len bytes) labels rest, long) (ap (λ (tail : List ℕ). len ∷ tail) (sym (take-append-drop len bytes) ∙ ap (λ (tail : List ℕ). take len bytes ++ tail) parts)),
    )

name_found : (n room : ℕ) (bytes rest : List ℕ) → behind_within n room bytes ≡ Some rest → NameFront room bytes rest
name_found n room [] rest e = absurd cc
name_found zero room (len ∷ bytes) rest e = absurd cc
name_found (suc n) room (len ∷ bytes) rest e = elim (chosen (eqb room 0) _ _ _ e) [
  | inl none ↦ absurd (let h = none.1 in cc)
  | inr has ↦ elim (chosen (eqb len 0) _ _ _ has.1) [
    | inl root ↦ root_front room len bytes rest has.0 root.0 root.1
    | inr some ↦ elim (chosen (ltb 63 len) _ _ _ some.1) [
      | inl long ↦ absurd (let h = long.1 in cc)
      | inr few ↦ label_front room len bytes rest has.0 some.0 few.0 (name_found n (room - (len + 1)) (drop len bytes) rest few.1)
    ]
  ]
]

name_front : (bytes rest : List ℕ) → behind_room 255 bytes ≡ Some rest → (labels : List (List ℕ)) × IsName labels × (bytes ≡ name_bytes labels ++ rest)
unfolding behind_room
name_front bytes rest e =
    let found = name_found (length bytes) 255 bytes rest e in
    (found.0, record { each = found.1; short = found.2 }, found.3)

-- behind a name is the rest
name_ends : (room : ℕ) (labels : List (List ℕ)) (rest : List ℕ) → AllByRecursion IsLabel labels → wire_length labels ≤ room → behind_room room (name_bytes labels ++ rest) ≡ Some rest
name_ends room [] rest each short =
    let has : eqb room 0 ≡ false = grind (arith, nat_tests, short) in
    behind_cons room 0 rest ∙ rw has refl
name_ends room (label ∷ labels) rest each short =
    let one = each.0.some in
    let most = each.0.few in
    let has : eqb room 0 ≡ false = grind (arith, nat_tests, short) in
    let some : eqb (length label) 0 ≡ false = grind (arith, nat_tests, one) in
    let few : ltb 63 (length label) ≡ false = grind (arith, nat_tests, most) in
    rw (name_cons label labels rest, behind_cons room (length label) (label ++ (name_bytes labels ++ rest)), has, some, few, drop-append_seam label (name_bytes labels ++ rest))
    (name_ends (room - (length label + 1)) labels rest each.1 (omega (arith, short, wire_some labels)))

-- the names that stand in front of bytes
abbrev NamesFront : ℕ → List ℕ → List ℕ → Type 0
NamesFront n bytes rest = (names : List (List (List ℕ))) × (length names ≡ n) × AllByRecursion IsName names × (bytes ≡ flat_map name_bytes names ++ rest)

names_found : (n : ℕ) (bytes rest : List ℕ) → behind_names n bytes ≡ Some rest → NamesFront n bytes rest
names_found zero bytes rest e = ([], refl, tt, same_Some bytes rest e)
names_found (suc n) bytes rest e = by_first (behind_room 255 bytes) refl (λ next. names_found n next rest) e where
  by_first : (first : Option (List ℕ)) → behind_room 255 bytes ≡ first → ((next : List ℕ) → behind_names n next ≡ Some rest → NamesFront n next rest) → option_and_then (behind_names n) first ≡ Some rest → NamesFront (suc n) bytes rest
  by_first None is more e = absurd cc
  by_first (Some next) is more e =
      let name = name_front bytes next is in
      let others = more next e in (
        name.0 ∷ others.0,
        ap suc (others.1),
        (name.1, others.2),
        rw (flat_map-cons name_bytes name.0 others.0, append_assoc (name_bytes name.0) (flat_map name_bytes others.0) rest) (name.2 ∙ ap (λ (tail : List ℕ). name_bytes name.0 ++ tail) others.3),
      )

-- behind so many names is the rest
names_end : (names : List (List (List ℕ))) (rest : List ℕ) → AllByRecursion IsName names → behind_names (length names) (flat_map name_bytes names ++ rest) ≡ Some rest
names_end [] rest each = refl
names_end (name ∷ names) rest each =
    rw (flat_map-cons name_bytes name names, append_assoc (name_bytes name) (flat_map name_bytes names) rest, name_ends 255 name (flat_map name_bytes names ++ rest) each.0.each each.0.short) (names_end names rest each.1)

-- ---- names and bytes

-- the bytes are the names, and so many bytes
abbrev NamesLeft : NamesShape → List ℕ → Type 0
NamesLeft s bytes = (back : List ℕ) × (length back ≡ s.back) × NamesFront s.names bytes back

left_say : (s : NamesShape) (bytes : List ℕ) → Decides (are_left s.back (behind_names s.names bytes)) (NamesLeft s bytes)
left_say s bytes = (by_left (behind_names s.names bytes) refl, are) where
  by_left : (left : Option (List ℕ)) → behind_names s.names bytes ≡ left → are_left s.back left ≡ true → NamesLeft s bytes
  by_left None is e = absurd cc
  by_left (Some back) is e = (back, eqb-true (length back) s.back e, names_found s.names bytes back is)

  are : NamesLeft s bytes → are_left s.back (behind_names s.names bytes) ≡ true
  are (back, left, (names, many, each, parts)) =
      let end : behind_names s.names bytes ≡ Some back = rw (parts, ← many) (names_end names back each) in
      rw end (eq-eqb (length back) s.back left)

names_say : (s : NamesShape) (rdata : List ℕ) → Decides (holds_names s rdata) (HoldsNames s rdata)
names_say s rdata = Decides-like (holds_names s rdata) to from (Decides-and (leb s.front (length rdata)) _ (leb-true s.front (length rdata), le-leb s.front (length rdata)) (left_say s (drop s.front rdata))) where
  to : (s.front ≤ length rdata) × NamesLeft s (drop s.front rdata) → HoldsNames s rdata
  to (within, (back, left, (names, many, each, parts))) = record {
    front = take s.front rdata;
    names = names;
    back = back;
    before = length-take-le s.front rdata within;
    count = many;
    each = each;
    behind = left;
    parts = sym (take-append-drop s.front rdata) ∙ ap (λ (tail : List ℕ). take s.front rdata ++ tail) parts ∙ sym (append_assoc (take s.front rdata) (flat_map name_bytes names) back);
  }

  from : HoldsNames s rdata → (s.front ≤ length rdata) × NamesLeft s (drop s.front rdata)
  from h =
      let more = flat_map name_bytes h.names ++ h.back in
      let whole : rdata ≡ h.front ++ more = h.parts ∙ append_assoc h.front (flat_map name_bytes h.names) h.back in
      let rest : drop s.front rdata ≡ more = rw (whole, ← h.before) (drop-append_seam h.front more) in
      (omega (arith, ap length whole, length-append h.front more, h.before), (h.back, h.behind, (h.names, h.count, h.each, rest)))

-- ---- each shape

two_say : (rdata : List ℕ) → Decides (is_two (strings_of rdata)) (HoldsStrings 2 rdata)
two_say rdata = (by_count (strings_of rdata) refl, λ h. rw ((strings_say rdata 2).1 h) refl) where
  by_count : (count : Option ℕ) → strings_of rdata ≡ count → is_two count ≡ true → HoldsStrings 2 rdata
  by_count None is e = absurd cc
  by_count (Some count) is e = (strings_say rdata 2).0 (is ∙ ap (λ (k : ℕ). Some k) (eqb-true count 2 e))

any_say : (rdata : List ℕ) → Decides (is_some (strings_of rdata)) ((count : ℕ) × HoldsStrings count rdata)
any_say rdata = (by_count (strings_of rdata) refl, λ h. rw ((strings_say rdata h.0).1 h.1) refl) where
  by_count : (count : Option ℕ) → strings_of rdata ≡ count → is_some count ≡ true → (count : ℕ) × HoldsStrings count rdata
  by_count None is e = absurd cc
  by_count (Some count) is e = (count, (strings_say rdata count).0 is)

-- the test of a shape
pub shape_says : (shape : Shape) (rdata : List ℕ) → Decides (holds_shape shape rdata) (HasShape shape rdata)
shape_says shapes.Any rdata = (λ _. tt, λ _. refl)
shape_says (shapes.Bytes count) rdata = (eqb-true (length rdata) count, eq-eqb (length rdata) count)
shape_says shapes.TwoStrings rdata = two_say rdata
shape_says shapes.Strings rdata = any_say rdata
shape_says (shapes.Names s) rdata = names_say s rdata
