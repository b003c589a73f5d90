-- Names and strings on the wire are read as themselves, and what is read is so on the wire.
use Rattle.std.proofs.Common.{◌≡◌, ℕ, zero, suc, ◌≤◌, Bool, true, false, cond, ltb, List, [], ◌∷◌, ◌++◌, length, take, drop, Option, Some, None, refl, sym, ap, ◌∙◌, append_assoc, arith}
use Rattle.std.specs.Prelude.{option_map, flat_map}
use Rattle.std.specs.Option.{option_and_then}
use Rattle.std.specs.List.{AllByRecursion}
use Rattle.std.proofs.lemmas.Option.{same_Some}
use Rattle.std.proofs.lemmas.Bool.Decides.{nat_tests}
use Rattle.std.proofs.lemmas.List.{take_at, drop_at, take-append-drop, length-take-le, length-append}
use Rattle.dns_message.specs.Name.{IsLabel, IsName}
use Rattle.dns_message.specs.NameText.{is_name}
use Rattle.dns_message.specs.Spelling.{label_bytes, name_bytes}
use Rattle.dns_rdata.specs.Parts.{first_string, then_strings, strings_within, strings_in, then_labels, labels_within, labels_in, name_in}
use Rattle.dns_rdata.proofs.PartsLemmas.{strings_cons, labels_cons, named, passed}

-- a string on the wire is read as itself
first_spelled : (string rest : List ℕ) → first_string (length string ∷ string ++ rest) ≡ Some (string, rest)
first_spelled string rest =
    let fits : ltb (length (string ++ rest)) (length string) ≡ false = rw length-append (grind (arith, nat_tests)) in
    rw (fits, take_at string rest (length string) refl, drop_at string rest (length string) refl) refl

-- what is read as a string is so on the wire
first_is : (bytes string rest : List ℕ) → first_string bytes ≡ Some (string, rest) → bytes ≡ length string ∷ string ++ rest
first_is [] string rest read = absurd cc
first_is (len ∷ bytes) string rest read = tested (ltb (length bytes) len) refl read where
  tested : (test : Bool) → ltb (length bytes) len ≡ test → cond {A = Option (List ℕ × List ℕ)} test None (Some (take len bytes, drop len bytes)) ≡ Some (string, rest) → len ∷ bytes ≡ length string ∷ string ++ rest
  tested true short read = absurd cc
  tested false fits read =
      let front : take len bytes ≡ string = ap (λ (p : List ℕ × List ℕ). p.0) (same_Some (take len bytes, drop len bytes) (string, rest) read) in
      let behind : drop len bytes ≡ rest = ap (λ (p : List ℕ × List ℕ). p.1) (same_Some (take len bytes, drop len bytes) (string, rest) read) in
      let enough : len ≤ length bytes = grind (arith, nat_tests) in
      let count : len ≡ length string = sym (length-take-le len bytes enough) ∙ ap length front in
      let all : bytes ≡ string ++ rest = sym (take-append-drop len bytes) ∙ ap (λ (x : List ℕ). x ++ drop len bytes) front ∙ ap (λ (x : List ℕ). string ++ x) behind in
      cc

-- ---- strings

pub strings_spelled : (strings : List (List ℕ)) → strings_in (flat_map label_bytes strings) ≡ Some strings
unfolding strings_in
strings_spelled [] = refl
strings_spelled (string ∷ strings) =
    let here : first_string (length string ∷ string ++ flat_map label_bytes strings) ≡ Some (string, flat_map label_bytes strings) = first_spelled string (flat_map label_bytes strings) in
    strings_cons (length string) (string ++ flat_map label_bytes strings) ∙ ap (then_strings strings_in) here
    ∙ ap (option_map (λ (others : List (List ℕ)). string ∷ others)) (strings_spelled strings)

strings_are_then : (n : ℕ) (bytes : List ℕ) (strings : List (List ℕ)) (first : Option (List ℕ × List ℕ))
    → ((rest : List ℕ) (others : List (List ℕ)) → strings_within n rest ≡ Some others → rest ≡ flat_map label_bytes others)
    → first_string bytes ≡ first → then_strings (strings_within n) first ≡ Some strings → bytes ≡ flat_map label_bytes strings
strings_are_then n bytes strings None below is read = absurd cc
strings_are_then n bytes strings (Some first) below is read = tested (strings_within n first.1) refl read where
  tested : (behind : Option (List (List ℕ))) → strings_within n first.1 ≡ behind → option_map (λ others. first.0 ∷ others) behind ≡ Some strings → bytes ≡ flat_map label_bytes strings
  tested None more read = absurd cc
  tested (Some others) more read =
      let all : first.0 ∷ others ≡ strings = cc in
      first_is bytes first.0 first.1 is ∙ ap (λ (rest : List ℕ). length first.0 ∷ first.0 ++ rest) (below first.1 others more) ∙ ap (flat_map label_bytes) all

strings_are_within : (n : ℕ) (bytes : List ℕ) (strings : List (List ℕ)) → strings_within n bytes ≡ Some strings → bytes ≡ flat_map label_bytes strings
strings_are_within zero [] strings read = let none : [] ≡ strings = cc in ap (flat_map label_bytes) none
strings_are_within zero (len ∷ bytes) strings read = absurd cc
strings_are_within (suc n) [] strings read = let none : [] ≡ strings = cc in ap (flat_map label_bytes) none
strings_are_within (suc n) (len ∷ bytes) strings read =
    strings_are_then n (len ∷ bytes) strings (first_string (len ∷ bytes)) (strings_are_within n) refl read

pub strings_are : (bytes : List ℕ) (strings : List (List ℕ)) → strings_in bytes ≡ Some strings → bytes ≡ flat_map label_bytes strings
unfolding strings_in
strings_are bytes strings read = strings_are_within (length bytes) bytes strings read

-- ---- names

labels_spelled : (labels : List (List ℕ)) (rest : List ℕ) → AllByRecursion IsLabel labels → labels_in (name_bytes labels ++ rest) ≡ Some (labels, rest)
labels_spelled [] rest each = labels_cons (0 ∷ rest) ∙ ap (then_labels labels_in) (first_spelled [] rest)
labels_spelled ([] ∷ labels) rest each = let some = each.0.some in absurd (omega arith)
labels_spelled ((b ∷ label) ∷ labels) rest each =
    let parts : name_bytes ((b ∷ label) ∷ labels) ++ rest ≡ length (b ∷ label) ∷ (b ∷ label) ++ (name_bytes labels ++ rest) = simp append_assoc in
    ap labels_in parts ∙ labels_cons (length (b ∷ label) ∷ (b ∷ label) ++ (name_bytes labels ++ rest))
    ∙ ap (then_labels labels_in) (first_spelled (b ∷ label) (name_bytes labels ++ rest))
    ∙ ap (option_map (λ (found : List (List ℕ) × List ℕ). ((b ∷ label) ∷ found.0, found.1))) (labels_spelled labels rest each.1)

labels_are_then : (n : ℕ) (bytes : List ℕ) (labels : List (List ℕ)) (rest : List ℕ) (first : Option (List ℕ × List ℕ))
    → ((behind : List ℕ) (others : List (List ℕ)) → labels_within n behind ≡ Some (others, rest) → behind ≡ name_bytes others ++ rest)
    → first_string bytes ≡ first → then_labels (labels_within n) first ≡ Some (labels, rest) → bytes ≡ name_bytes labels ++ rest
labels_are_then n bytes labels rest None below is read = absurd cc
labels_are_then n bytes labels rest (Some ([], behind)) below is read =
    let none : [] ≡ labels = ap (λ (p : List (List ℕ) × List ℕ). p.0) (same_Some ([], behind) (labels, rest) read) in
    let same : behind ≡ rest = ap (λ (p : List (List ℕ) × List ℕ). p.1) (same_Some ([], behind) (labels, rest) read) in
    first_is bytes [] behind is ∙ ap (λ (x : List ℕ). 0 ∷ x) same ∙ ap (λ (x : List (List ℕ)). name_bytes x ++ rest) none
labels_are_then n bytes labels rest (Some (b ∷ label, behind)) below is read = tested (labels_within n behind) refl read where
  tested : (found : Option (List (List ℕ) × List ℕ)) → labels_within n behind ≡ found → option_map {U = List (List ℕ) × List ℕ} (λ found. ((b ∷ label) ∷ found.0, found.1)) found ≡ Some (labels, rest) → bytes ≡ name_bytes labels ++ rest
  tested None more read = absurd cc
  tested (Some found) more read =
      let all : (b ∷ label) ∷ found.0 ≡ labels = ap (λ (p : List (List ℕ) × List ℕ). p.0) (same_Some ((b ∷ label) ∷ found.0, found.1) (labels, rest) read) in
      let last : found.1 ≡ rest = ap (λ (p : List (List ℕ) × List ℕ). p.1) (same_Some ((b ∷ label) ∷ found.0, found.1) (labels, rest) read) in
      let here : labels_within n behind ≡ Some (found.0, rest) = more ∙ ap (λ (x : List ℕ). Some (found.0, x)) last in
      let parts : name_bytes ((b ∷ label) ∷ found.0) ++ rest ≡ length (b ∷ label) ∷ (b ∷ label) ++ (name_bytes found.0 ++ rest) = simp append_assoc in
      first_is bytes (b ∷ label) behind is ∙ ap (λ (x : List ℕ). length (b ∷ label) ∷ (b ∷ label) ++ x) (below behind found.0 here) ∙ sym parts ∙ ap (λ (x : List (List ℕ)). name_bytes x ++ rest) all

labels_are_within : (n : ℕ) (bytes : List ℕ) (labels : List (List ℕ)) (rest : List ℕ) → labels_within n bytes ≡ Some (labels, rest) → bytes ≡ name_bytes labels ++ rest
labels_are_within zero bytes labels rest read = absurd cc
labels_are_within (suc n) bytes labels rest read =
    labels_are_then n bytes labels rest (first_string bytes) (λ (behind : List ℕ) (others : List (List ℕ)) (e : labels_within n behind ≡ Some (others, rest)). labels_are_within n behind others rest e) refl read

pub name_spelled : (labels : List (List ℕ)) (rest : List ℕ) → IsName labels → name_in (name_bytes labels ++ rest) ≡ Some (labels, rest)
name_spelled labels rest name = named (name_bytes labels ++ rest) labels rest (labels_spelled labels rest name.each) name

labels_are : (bytes : List ℕ) (labels : List (List ℕ)) (rest : List ℕ) → labels_in bytes ≡ Some (labels, rest) → bytes ≡ name_bytes labels ++ rest
unfolding labels_in
labels_are bytes labels rest read = labels_are_within (length bytes) bytes labels rest read

pub name_is : (bytes : List ℕ) (labels : List (List ℕ)) (rest : List ℕ) → name_in bytes ≡ Some (labels, rest) → IsName labels × (bytes ≡ name_bytes labels ++ rest)
name_is bytes labels rest read = tested (labels_in bytes) refl read where
  kept : (found : List (List ℕ) × List ℕ) (test : Bool) → labels_in bytes ≡ Some found → is_name found.0 ≡ test → cond {A = Option (List (List ℕ) × List ℕ)} test (Some found) None ≡ Some (labels, rest) → IsName labels × (bytes ≡ name_bytes labels ++ rest)
  kept found false is test read = absurd cc
  kept found true is test read =
      let same : found ≡ (labels, rest) = same_Some found (labels, rest) read in
      let name : is_name labels ≡ true = ap (λ (x : List (List ℕ) × List ℕ). is_name x.0) (sym same) ∙ test in
      (passed labels name, labels_are bytes labels rest (is ∙ ap (λ (x : List (List ℕ) × List ℕ). Some x) same))

  tested : (found : Option (List (List ℕ) × List ℕ)) → labels_in bytes ≡ found → option_and_then (λ found. cond {A = Option (List (List ℕ) × List ℕ)} (is_name found.0) (Some found) None) found ≡ Some (labels, rest) → IsName labels × (bytes ≡ name_bytes labels ++ rest)
  tested None is read = absurd cc
  tested (Some found) is read = kept found (is_name found.0) is refl read
