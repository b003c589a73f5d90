-- Labels that stand one behind the other in bytes, each behind its length.
use Rattle.std.proofs.Common.{◌≡◌, ℕ, zero, suc, ◌+◌, ◌-◌, ◌<◌, ◌≤◌, List, [], ◌∷◌, ◌++◌, length, map, take, drop, get_or, refl, ap, sym, ◌∙◌, arith, add-one, drop-cons, append-nil, append_assoc}
use Rattle.std.specs.Prelude.{slice_range}
use Rattle.std.specs.List.{AllByRecursion}
use Rattle.std.specs.Char.{to_ascii_lowercase}
use Rattle.std.proofs.Math.Seq.{drop-append_seam, take-append_seam, take-add}
use Rattle.std.proofs.lemmas.List.{length-append, length-drop, length-take, length-take-le, length-map, map-append, take-append-drop, take_all, drop-drop}
use Rattle.std.proofs.lemmas.Str.Ascii.{lowercase_is}
use Rattle.std.proofs.lemmas.List.Concat.{flat_map-cons}
use Rattle.std.proofs.lemmas.Grind.{flat_map-append}
use Rattle.dns_message.specs.Name.{IsLabel, IsName, wire_length, SameLabel, SameName}
use Rattle.dns_message.specs.Reading.{byte_at, label_of}
use Rattle.dns_message.specs.Wire.{label_bytes, wire_bytes, labels_within, labels_in, IsWire, AreLabels}
use Rattle.dns_message.proofs.NameLemmas.{wire_append, each_append, pushed}

-- any number of bytes will do that is enough
labels_enough : (n m : ℕ) (bytes : List ℕ) → length bytes ≤ n → length bytes ≤ m → labels_within n bytes ≡ labels_within m bytes
labels_enough n m [] a b = refl
labels_enough zero m (len ∷ bytes) a b = absurd (omega arith)
labels_enough (suc n) zero (len ∷ bytes) a b = absurd (omega arith)
labels_enough (suc n) (suc m) (len ∷ bytes) a b =
    ap (λ (labels : List (List ℕ)). take len bytes ∷ labels) (labels_enough n m (drop len bytes) (omega (arith, length-drop len bytes)) (omega (arith, length-drop len bytes)))

-- the first label, and those behind it
labels_cons : (len : ℕ) (bytes : List ℕ) → labels_in (len ∷ bytes) ≡ take len bytes ∷ labels_in (drop len bytes)
unfolding labels_in
labels_cons len bytes =
    ap (λ (labels : List (List ℕ)). take len bytes ∷ labels) (labels_enough (length bytes) (length (drop len bytes)) (drop len bytes) (omega (arith, length-drop len bytes)) (omega arith))

pub labels_none : labels_in [] ≡ []
unfolding labels_in
labels_none = refl

-- labels that are spelled are those that stand there
pub labels_back : (labels : List (List ℕ)) → labels_in (wire_bytes labels) ≡ labels
labels_back [] = labels_none
labels_back (label ∷ labels) =
    let behind = wire_bytes labels in
    rw (flat_map-cons label_bytes label labels, labels_cons (length label) (label ++ behind), take-append_seam label behind, drop-append_seam label behind, labels_back labels) refl

-- bytes that are spelled labels
pub wire_of : (bytes : List ℕ) (count : ℕ) (labels : List (List ℕ)) → bytes ≡ wire_bytes labels → IsName labels → count ≡ length labels → IsWire bytes count
wire_of bytes count labels spelled name many =
    let same : labels_in bytes ≡ labels = ap labels_in spelled ∙ labels_back labels in
    record { name = rw same name; spelled = rw same spelled; count = rw same many }

pub labels_of : (bytes : List ℕ) (labels : List (List ℕ)) → bytes ≡ wire_bytes labels → labels_in bytes ≡ labels
labels_of bytes labels spelled = ap labels_in spelled ∙ labels_back labels

-- no labels
pub wire_none : IsWire [] 0
wire_none = wire_of [] 0 [] refl (record { each = tt; short = omega arith }) refl

-- the length on the wire
pub labels_length : (labels : List (List ℕ)) → length (wire_bytes labels) + 1 ≡ wire_length labels
labels_length [] = refl
labels_length (label ∷ labels) =
    omega (arith, ap length (flat_map-cons label_bytes label labels), length-append (label_bytes label) (wire_bytes labels), labels_length labels)

-- a label more
pub spelled_more : (labels : List (List ℕ)) (label : List ℕ) → wire_bytes (labels ++ label ∷ []) ≡ wire_bytes labels ++ label_bytes label
spelled_more labels label = flat_map-append label_bytes labels (label ∷ []) ∙ ap (λ (last : List ℕ). wire_bytes labels ++ last) (flat_map-cons label_bytes label [] ∙ append-nil (label_bytes label))

-- bytes that are labels, behind those that were written
pub written_more : (before bytes more : List ℕ) (labels : List (List ℕ)) → bytes ≡ before ++ wire_bytes labels → AreLabels more → bytes ++ more ≡ before ++ wire_bytes (labels ++ labels_in more)
written_more before bytes more labels written spelled =
    ap (λ (front : List ℕ). front ++ more) written
    ∙ append_assoc before (wire_bytes labels) more
    ∙ ap (λ (all : List ℕ). before ++ all) (ap (λ (last : List ℕ). wire_bytes labels ++ last) spelled ∙ sym (flat_map-append label_bytes labels (labels_in more)))

module _ (bytes : List ℕ) (count : ℕ) (label : List ℕ) (wire : IsWire bytes count) (is : IsLabel label) (room : wire_length (labels_in bytes) + length label + 1 ≤ 255) where
  more_spelled : bytes ++ label_bytes label ≡ wire_bytes (labels_in bytes ++ label ∷ [])
  more_spelled = ap (λ (front : List ℕ). front ++ label_bytes label) wire.spelled ∙ sym (spelled_more (labels_in bytes) label)

  pub wire_more : IsWire (bytes ++ label_bytes label) (count + 1)
  wire_more =
      wire_of (bytes ++ label_bytes label) (count + 1) (labels_in bytes ++ label ∷ []) more_spelled
      (pushed (labels_in bytes) label (wire_length (labels_in bytes)) (wire.name, refl) is room).0
      (omega (arith, wire.count, length-append (labels_in bytes) (label ∷ [])))

  pub labels_more : labels_in (bytes ++ label_bytes label) ≡ labels_in bytes ++ label ∷ []
  labels_more = labels_of (bytes ++ label_bytes label) (labels_in bytes ++ label ∷ []) more_spelled

-- the first label
module _ (len : ℕ) (bytes : List ℕ) (spelled : AreLabels (len ∷ bytes)) where
  parts : len ∷ bytes ≡ length (take len bytes) ∷ (take len bytes ++ wire_bytes (labels_in (drop len bytes)))
  parts = spelled ∙ ap wire_bytes (labels_cons len bytes) ∙ flat_map-cons label_bytes (take len bytes) (labels_in (drop len bytes))

  long : len ≡ length (take len bytes)
  long = let p = parts in cc

  tail : bytes ≡ take len bytes ++ wire_bytes (labels_in (drop len bytes))
  tail = let p = parts in cc

  -- it stands within the bytes
  pub first_fits : len ≤ length bytes
  first_fits = omega (arith, long, length-take len bytes)

  -- what is behind it is labels
  pub behind_spelled : AreLabels (drop len bytes)
  behind_spelled = rest (drop-append_seam (take len bytes) (drop len bytes)) where
    rest : drop (length (take len bytes)) (take len bytes ++ drop len bytes) ≡ drop len bytes → AreLabels (drop len bytes)
    rest e = sym e ∙ ap (drop (length (take len bytes))) (take-append-drop len bytes ∙ tail) ∙ drop-append_seam (take len bytes) (wire_bytes (labels_in (drop len bytes)))

-- a length is no letter
low : (n : ℕ) → n ≤ 63 → to_ascii_lowercase n ≡ n
low n few = (lowercase_is n).1 (omega (arith, few))

-- labels in lower case
lower_spelled : (labels : List (List ℕ)) → AllByRecursion IsLabel labels → map to_ascii_lowercase (wire_bytes labels) ≡ wire_bytes (map (map to_ascii_lowercase) labels)
lower_spelled [] each = refl
lower_spelled (label ∷ labels) each =
    let few = each.0.few in
    ap (map to_ascii_lowercase) (flat_map-cons label_bytes label labels)
    ∙ map-append to_ascii_lowercase (label_bytes label) (wire_bytes labels)
    ∙ rw (low (length label) few, lower_spelled labels each.1, flat_map-cons label_bytes (map to_ascii_lowercase label) (map (map to_ascii_lowercase) labels), length-map) refl

-- names are the same where their bytes are, ignoring ASCII case
module _ (bytes other_bytes : List ℕ) (labels others : List (List ℕ)) (is : bytes ≡ wire_bytes labels) (is_other : other_bytes ≡ wire_bytes others) (name : IsName labels) (other : IsName others) where
  pub same_labels : SameLabel bytes other_bytes → SameName labels others
  same_labels e =
      let low : wire_bytes (map (map to_ascii_lowercase) labels) ≡ wire_bytes (map (map to_ascii_lowercase) others) = sym (lower_spelled labels name.each) ∙ (rw (is, is_other) at e) ∙ lower_spelled others other.each in
      sym (labels_back (map (map to_ascii_lowercase) labels)) ∙ ap labels_in low ∙ labels_back (map (map to_ascii_lowercase) others)

  pub same_bytes : SameName labels others → SameLabel bytes other_bytes
  same_bytes e = rw (is, is_other) (lower_spelled labels name.each ∙ ap wire_bytes e ∙ sym (lower_spelled others other.each))

-- there are no more labels than bytes
few_labels : (labels : List (List ℕ)) → length labels + 1 ≤ wire_length labels
few_labels [] = omega arith
few_labels (label ∷ labels) = omega (arith, few_labels labels)

-- the length of a name, and how many labels it has at most
module _ (bytes : List ℕ) (many : ℕ) (wire : IsWire bytes many) where
  pub wire_size : length bytes + 1 ≡ wire_length (labels_in bytes)
  wire_size = ap (λ (all : List ℕ). length all + 1) wire.spelled ∙ labels_length (labels_in bytes)

  pub wire_short : length bytes + 1 ≤ 255
  wire_short = omega (arith, wire_size, wire.name.short)

  pub wire_many : many + 1 ≤ 255
  wire_many = omega (arith, wire.count, few_labels (labels_in bytes), wire.name.short)

-- the labels of two names
module _ (bytes : List ℕ) (count : ℕ) (more : List ℕ) (many : ℕ) (wire : IsWire bytes count) (other : IsWire more many) (room : wire_length (labels_in bytes) + length more ≤ 255) where
  both_spelled : bytes ++ more ≡ wire_bytes (labels_in bytes ++ labels_in more)
  both_spelled = ap (λ (front : List ℕ). front ++ more) wire.spelled ∙ ap (λ (back : List ℕ). wire_bytes (labels_in bytes) ++ back) other.spelled ∙ sym (flat_map-append label_bytes (labels_in bytes) (labels_in more))

  pub wire_both : IsWire (bytes ++ more) (count + many)
  wire_both =
      wire_of (bytes ++ more) (count + many) (labels_in bytes ++ labels_in more) both_spelled
      (record { each = each_append (labels_in bytes) (labels_in more) wire.name.each other.name.each; short = omega (arith, room, wire_size more many other, wire_append (labels_in bytes) (labels_in more)) })
      (omega (arith, wire.count, other.count, length-append (labels_in bytes) (labels_in more)))

  pub labels_both : labels_in (bytes ++ more) ≡ labels_in bytes ++ labels_in more
  labels_both = labels_of (bytes ++ more) (labels_in bytes ++ labels_in more) both_spelled

-- the first label of bytes, by offsets
pub first_is : (wire : List ℕ) → 0 < length wire → labels_in wire ≡ take (get_or wire 0 0) (drop 1 wire) ∷ labels_in (drop (get_or wire 0 0) (drop 1 wire))
first_is [] some = absurd (omega arith)
first_is (len ∷ bytes) some = labels_cons len bytes

-- it stands within the bytes
pub first_within : (wire : List ℕ) → 0 < length wire → AreLabels wire → get_or wire 0 0 ≤ length (drop 1 wire)
first_within [] some spelled = absurd (omega arith)
first_within (len ∷ bytes) some spelled = first_fits len bytes spelled

-- what is behind it is labels
pub first_behind : (wire : List ℕ) → 0 < length wire → AreLabels wire → AreLabels (drop (get_or wire 0 0) (drop 1 wire))
first_behind [] some spelled = absurd (omega arith)
first_behind (len ∷ bytes) some spelled = behind_spelled len bytes spelled

-- a slice up to the end is all that is left
pub rest_all : (n : ℕ) (xs : List ℕ) → take (length xs - n) (drop n xs) ≡ drop n xs
rest_all n xs = take_all (length xs - n) (drop n xs) (omega (arith, length-drop n xs))

-- no bytes are no labels
pub no_labels : (bytes : List ℕ) → length bytes ≡ 0 → labels_in bytes ≡ []
no_labels [] none = labels_none
no_labels (len ∷ bytes) none = absurd (omega arith)

-- a run's labels in a message
range_length : (bytes : List ℕ) (run at : ℕ) → run ≤ at → at ≤ length bytes → length (slice_range bytes run at) ≡ at - run
range_length bytes run at from within = length-take-le (at - run) (drop run bytes) (omega (arith, length-drop run bytes))

pub run_none : (bytes : List ℕ) (run : ℕ) → slice_range bytes run run ≡ []
run_none bytes run = let none : run - run ≡ 0 = omega arith in rw none refl

pub run_short : (bytes : List ℕ) (run at : ℕ) → length (slice_range bytes run at) ≤ at - run
run_short bytes run at = omega (arith, length-take (at - run) (drop run bytes))

-- the name so far, with the run's labels so far
pub run_taken : (bytes : List ℕ) (run at many : ℕ) (front : List (List ℕ)) → run ≤ at → at ≤ length bytes → IsWire (slice_range bytes run at) many
    → wire_length (front ++ labels_in (slice_range bytes run at)) ≡ wire_length front + (at - run)
run_taken bytes run at many front from within wire =
    omega (arith, range_length bytes run at from within, wire_size (slice_range bytes run at) many wire, wire_append front (labels_in (slice_range bytes run at)))

-- a label more
module _ (bytes : List ℕ) (run at many : ℕ) (from : run ≤ at) (lt : at < length bytes) (fits : at + 1 + byte_at bytes at ≤ length bytes) where
  label_long : length (label_of bytes at) ≡ byte_at bytes at
  label_long =
      let more : at + 1 + byte_at bytes at - (at + 1) ≡ byte_at bytes at = omega arith in
      rw more (length-take-le (byte_at bytes at) (drop (at + 1) bytes) (omega (arith, length-drop (at + 1) bytes)))

  spelled_at : slice_range bytes at (at + 1 + byte_at bytes at) ≡ label_bytes (label_of bytes at)
  spelled_at =
      let here : drop at bytes ≡ byte_at bytes at ∷ drop (at + 1) bytes = rw (add-one, drop-cons bytes at 0) refl in
      let all : at + 1 + byte_at bytes at - at ≡ suc (byte_at bytes at) = omega arith in
      let more : at + 1 + byte_at bytes at - (at + 1) ≡ byte_at bytes at = omega arith in
      let all_long : length (take (byte_at bytes at) (drop (at + 1) bytes)) ≡ byte_at bytes at = length-take-le (byte_at bytes at) (drop (at + 1) bytes) (omega (arith, length-drop (at + 1) bytes)) in
      rw (all, more, here, all_long) refl

  range_more : slice_range bytes run (at + 1 + byte_at bytes at) ≡ slice_range bytes run at ++ label_bytes (label_of bytes at)
  range_more =
      let parts : at + 1 + byte_at bytes at - run ≡ (at - run) + (at + 1 + byte_at bytes at - at) = omega arith in
      let behind : run + (at - run) ≡ at = omega arith in
      ap (λ (n : ℕ). take n (drop run bytes)) parts ∙ take-add (at - run) (at + 1 + byte_at bytes at - at) (drop run bytes)
      ∙ ap (λ (rest : List ℕ). slice_range bytes run at ++ take (at + 1 + byte_at bytes at - at) rest) (drop-drop (at - run) run bytes ∙ ap (λ (n : ℕ). drop n bytes) behind)
      ∙ ap (λ (rest : List ℕ). slice_range bytes run at ++ rest) spelled_at

  module _ (wire : IsWire (slice_range bytes run at) many) (some : 1 ≤ byte_at bytes at) (few : byte_at bytes at ≤ 63) (room : at - run + byte_at bytes at + 2 ≤ 255) where
    is : IsLabel (label_of bytes at)
    is = record { some = omega (arith, label_long); few = omega (arith, label_long) }

    fit : wire_length (labels_in (slice_range bytes run at)) + length (label_of bytes at) + 1 ≤ 255
    fit = let within : at ≤ length bytes = omega arith in omega (arith, label_long, range_length bytes run at from within, wire_size (slice_range bytes run at) many wire)

    pub run_wire : IsWire (slice_range bytes run (at + 1 + byte_at bytes at)) (many + 1)
    run_wire = rw range_more (wire_more (slice_range bytes run at) many (label_of bytes at) wire is fit)

    pub run_labels : labels_in (slice_range bytes run (at + 1 + byte_at bytes at)) ≡ labels_in (slice_range bytes run at) ++ label_of bytes at ∷ []
    run_labels = ap labels_in range_more ∙ labels_more (slice_range bytes run at) many (label_of bytes at) wire is fit
