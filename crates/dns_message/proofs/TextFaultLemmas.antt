-- The first fault of a text and of labels (specs/TextFaults) is the one at which their reading ends (specs/NameFaults).
use Rattle.std.proofs.Common.{◌≡◌, ◌≢◌, ℕ, zero, suc, ◌+◌, ◌-◌, ◌<◌, ◌≤◌, Bool, true, false, cond, eqb, ltb, List, [], ◌∷◌, ◌++◌, length, get_or, drop, Option, Some, None, Result, Ok, Err, inl, inr, refl, sym, ap, subst, ◌∙◌, arith, codes, append_assoc, append-nil}
use Rattle.std.specs.Prelude.{option_map, ◌⊎◌, ◌↔◌}
use Rattle.std.specs.Str.{bytes_eq}
use Rattle.std.specs.Char.{is_ascii_digit}
use Rattle.std.proofs.lemmas.Bool.{cases_lt, cases_eq, lt-ltb, le-ltb, ne_eqb}
use Rattle.std.proofs.lemmas.List.{drop-drop, length-drop, length-append}
use Rattle.std.proofs.lemmas.Option.{same_Some}
use Rattle.std.proofs.lemmas.Slice.Eq.{bytes_eq-Decides}
use Rattle.std.specs.List.{AllByRecursion}
use Rattle.dns_message.specs.Name.{IsName, IsLabel, wire_length}
use Rattle.dns_message.specs.NameText.{byte_of_digits, numbered, escaped}
use Rattle.dns_message.specs.NameFaults.{Spot, dot, byte, spots_of, and_then, with_label, name_on, name_read, labels_on, labels_read}
use Rattle.dns_message.specs.TextFaults.{HasDot, HasByte, plain, quoted, EndsLabel, IsInOrder, begins, over_byte, over_dot, FailsAt, FirstTextFault, SpoilsAt, FirstLabelFault}
use Rattle.dns_message.specs.declared.fault.NameFault.{NameFault}
use Rattle.dns_message.specs.declared.fault.NameFault.TheVariants.{EmptyLabel, LongLabel, LongName, BadEscape, NoMemory}
use Rattle.dns_message.proofs.NameLemmas.{wire_append, wire_some, pushed}
use Rattle.dns_message.proofs.SpotLemmas.{spots_end, spots_dot, spots_plain, spots_escaped, spots_bad, on_byte, on_long, label_stops, label_joins}

-- one label more on the wire
wire_one : (front : List (List ℕ)) (label : List ℕ) → wire_length (front ++ label ∷ []) ≡ wire_length front + length label + 1
wire_one front label = omega (arith, wire_append front (label ∷ []))

-- ---- a label behind those in front

module _ (front : List (List ℕ)) (start : ℕ) (label : List ℕ) (end : ℕ) where
  empty_stops : length label ≡ 0 → with_label front start label end ≡ Err (EmptyLabel end)
  empty_stops none = rw none refl

  long_stops : 1 ≤ length label → 255 < wire_length (front ++ label ∷ []) → with_label front start label end ≡ Err (LongName start)
  long_stops some long =
      let ne : eqb (length label) 0 ≡ false = ne_eqb (length label) 0 (omega arith) in
      let wide : ltb 255 (wire_length front + length label + 1) ≡ true = lt-ltb 255 (wire_length front + length label + 1) (omega (arith, wire_one front label)) in
      rw (ne, wide) refl

  joins : 1 ≤ length label → wire_length (front ++ label ∷ []) ≤ 255 → with_label front start label end ≡ Ok (front ++ label ∷ [])
  joins some short =
      let ne : eqb (length label) 0 ≡ false = ne_eqb (length label) 0 (omega arith) in
      let room : ltb 255 (wire_length front + length label + 1) ≡ false = le-ltb 255 (wire_length front + length label + 1) (omega (arith, wire_one front label)) in
      rw (ne, room) refl

  -- the label has no byte, makes the name too long, or joins
  three_ways : (length label ≡ 0) ⊎ ((1 ≤ length label) × (255 < wire_length (front ++ label ∷ []))) ⊎ ((1 ≤ length label) × (wire_length (front ++ label ∷ []) ≤ 255))
  three_ways = elim (cases_eq (length label) 0) [
    | inl none ↦ inl none
    | inr some ↦ elim (cases_lt 255 (wire_length (front ++ label ∷ []))) [
      | inl long ↦ inr (inl (omega arith, long))
      | inr short ↦ inr (inr (omega arith, short))
    ]
  ]

ok_never : {A P : Type 0} (x : A) (fault : NameFault) → ◌≡◌ {A = Result A NameFault} (Ok x) (Err fault) → P
ok_never x fault e = absurd cc

fault_is : {A : Type 0} (x y : NameFault) → ◌≡◌ {A = Result A NameFault} (Err x) (Err y) → x ≡ y
fault_is x y e = cc

-- what stands behind an escape
numbered_long : (a : ℕ) (text : List ℕ) (found : ℕ × List ℕ) → numbered a text ≡ Some found → (found.1 ≡ drop 2 text) × (2 ≤ length text)
numbered_long a [] found e = absurd cc
numbered_long a (b ∷ []) found e = absurd cc
numbered_long a (b ∷ c ∷ text) found e = mapped (byte_of_digits a b c) e where
  mapped : (o : Option ℕ) → option_map (λ byte. (byte, text)) o ≡ Some found → (found.1 ≡ drop 2 (b ∷ c ∷ text)) × (2 ≤ length (b ∷ c ∷ text))
  mapped None e = absurd cc
  mapped (Some x) e = (ap (λ (p : ℕ × List ℕ). p.1) (sym (same_Some (x, text) found e)), omega arith)

escape_long : (rest : List ℕ) (found : ℕ × List ℕ) → escaped rest ≡ Some found → (len : ℕ) × (found.1 ≡ drop len rest) × (len ≤ length rest)
escape_long [] found e = absurd cc
escape_long (a ∷ text) found e = by_first (is_ascii_digit a) e where
  by_first : (digit : Bool) → cond digit (numbered a text) (Some (a, text)) ≡ Some found → (len : ℕ) × (found.1 ≡ drop len (a ∷ text)) × (len ≤ length (a ∷ text))
  by_first true e = let long = numbered_long a text found e in (3, long.0, omega (arith, long.1))
  by_first false e = (1, ap (λ (p : ℕ × List ℕ). p.1) (sym (same_Some (a, text) found e)), omega arith)

-- ---- the reading of a text, from a place on

module _ (text : List ℕ) where
  -- what the reading gives from p on
  abbrev read_on : ℕ → ℕ → List (List ℕ) → List ℕ → Result (List (List ℕ) × Bool) NameFault
  read_on start p front label = name_on (length text) front start label (spots_of p (drop p text))

  -- behind an escape
  behind_quoted : (p b next : ℕ) → p + 1 ≤ next → escaped (drop (p + 1) text) ≡ Some (b, drop next text) → escaped (drop (p + 1) text) ≡ Some (b, drop (next - (p + 1)) (drop (p + 1) text))
  behind_quoted p b next from e =
      let same : p + 1 + (next - (p + 1)) ≡ next = omega arith in
      e ∙ ap (λ (rest : List ℕ). Some (b, rest)) (ap (λ (n : ℕ). drop n text) (sym same) ∙ sym (drop-drop (next - (p + 1)) (p + 1) text))

  -- the byte at p
  byte_is : (p b next : ℕ) → HasByte text p b next → spots_of p (drop p text) ≡ byte p b ∷ spots_of next (drop next text)
  byte_is p _ _ (plain lt no_dot no_slash) = spots_plain text p lt no_dot no_slash
  byte_is p b next (quoted _ _ lt slash e from within) =
      let same : p + 1 + (next - (p + 1)) ≡ next = omega arith in
      spots_escaped text p lt b (next - (p + 1)) slash (behind_quoted p b next from e) (omega arith)
      ∙ ap (λ (n : ℕ). byte p b ∷ spots_of n (drop n text)) same

  byte_on : (start p : ℕ) (front : List (List ℕ)) (label : List ℕ) (b next : ℕ) → HasByte text p b next → length label < 63 → read_on start p front label ≡ read_on start next front (label ++ b ∷ [])
  byte_on start p front label b next has few =
      ap (name_on (length text) front start label) (byte_is p b next has)
      ∙ on_byte (length text) front start label p b (spots_of next (drop next text)) (omega arith)

  dot_on : (start p : ℕ) (front : List (List ℕ)) (label : List ℕ) → HasDot text p → p + 1 < length text → 1 ≤ length label → wire_length (front ++ label ∷ []) ≤ 255
      → read_on start p front label ≡ read_on (p + 1) (p + 1) (front ++ label ∷ []) []
  dot_on start p front label has more some short =
      ap (name_on (length text) front start label) (spots_dot text p has.0 has.1)
      ∙ label_joins text front start p label true refl more (joins front start label p some short)

  -- where a label ends that can't join
  end_stops : (start p : ℕ) (front : List (List ℕ)) (label : List ℕ) (fault : NameFault) → EndsLabel text p → with_label front start label p ≡ Err fault → read_on start p front label ≡ Err fault
  end_stops start p front label fault (inl has) e =
      ap (name_on (length text) front start label) (spots_dot text p has.0 has.1) ∙ label_stops text front start p label true tt fault e
  end_stops start p front label fault (inr last) e =
      ap (name_on (length text) front start label) (spots_end p text p (omega arith)) ∙ label_stops text front start p label false last fault e

  -- ---- a fault is what the reading finds

  order_reads : (start p : ℕ) (front : List (List ℕ)) (label : List ℕ) (fault : NameFault) → IsInOrder text start p front label → read_on start p front label ≡ Err fault → name_on (length text) [] 0 [] (spots_of 0 text) ≡ Err fault
  order_reads _ _ _ _ fault begins e = e
  order_reads _ _ _ _ fault (over_byte start p front label b next order has few) e = order_reads start p front label fault order (byte_on start p front label b next has few ∙ e)
  order_reads _ _ _ _ fault (over_dot start p front label order has more some short) e = order_reads start p front label fault order (dot_on start p front label has more some short ∙ e)

  fails_reads : (start p : ℕ) (front : List (List ℕ)) (label : List ℕ) (fault : NameFault) → FailsAt text start p front label fault → read_on start p front label ≡ Err fault
  fails_reads start p front label (EmptyLabel at) fails =
      end_stops start p front label (EmptyLabel p) fails.1 (empty_stops front start label p fails.2) ∙ ap (λ (n : ℕ). Err (EmptyLabel n)) (sym fails.0)
  fails_reads start p front label (LongLabel at) fails =
      ap (name_on (length text) front start label) (byte_is p fails.2 fails.3 fails.4)
      ∙ on_long (length text) front start label p fails.2 (spots_of fails.3 (drop fails.3 text)) fails.1
      ∙ ap (λ (n : ℕ). Err (LongLabel n)) (sym fails.0)
  fails_reads start p front label (LongName at) fails =
      end_stops start p front label (LongName start) fails.1 (long_stops front start label p fails.2 fails.3) ∙ ap (λ (n : ℕ). Err (LongName n)) (sym fails.0)
  fails_reads start p front label (BadEscape at) fails =
      ap (name_on (length text) front start label) (spots_bad text p fails.1.0 fails.1.1 fails.1.2) ∙ ap (λ (n : ℕ). Err (BadEscape n)) (sym fails.0)
  fails_reads start p front label NoMemory fails = absurd fails

-- ---- what the reading finds is a fault

module _ (text : List ℕ) (no_root : text ≢ codes ".") (fault : NameFault) where
  here_fails : (start p : ℕ) (front : List (List ℕ)) (label : List ℕ) (found : NameFault) → IsInOrder text start p front label → FailsAt text start p front label found
      → read_on text start p front label ≡ Err fault → FirstTextFault text fault
  here_fails start p front label found order fails e =
      subst (λ (f : NameFault). FirstTextFault text f) (fault_is found fault (sym (fails_reads text start p front label found fails) ∙ e))
      (record { start = start; at = p; front = front; label = label; no_root = no_root; order = order; fails = fails })

  -- a label ends, and can't join, or joins
  at_end : (start p : ℕ) (front : List (List ℕ)) (label : List ℕ) → IsInOrder text start p front label → EndsLabel text p → read_on text start p front label ≡ Err fault
      → (1 ≤ length label → wire_length (front ++ label ∷ []) ≤ 255 → FirstTextFault text fault) → FirstTextFault text fault
  at_end start p front label order ends e joined = elim (three_ways front start label p) [
    | inl none ↦ here_fails start p front label (EmptyLabel p) order (refl, ends, none) e
    | inr others ↦ elim others [
      | inl long ↦ here_fails start p front label (LongName start) order (refl, ends, long.0, long.1) e
      | inr room ↦ joined room.0 room.1
    ]
  ]

  -- from such a place on the reading finds the first fault
  abbrev Goes : ℕ → Type 0
  Goes n = (start p : ℕ) (front : List (List ℕ)) (label : List ℕ) → length text - p < n → p ≤ length text → length label ≤ 63
      → IsInOrder text start p front label → read_on text start p front label ≡ Err fault → FirstTextFault text fault

  on_end : (start p : ℕ) (front : List (List ℕ)) (label : List ℕ) → p ≡ length text → IsInOrder text start p front label → read_on text start p front label ≡ Err fault → FirstTextFault text fault
  on_end start p front label last order e = at_end start p front label order (inr last) e (λ some short.
      let whole : read_on text start p front label ≡ Ok (front ++ label ∷ [], false) = ap (name_on (length text) front start label) (spots_end p text p (omega arith)) ∙ rw (joins front start label (length text) some short) refl in
      ok_never (front ++ label ∷ [], false) fault (sym whole ∙ e))

  on_dot : (n start p : ℕ) (front : List (List ℕ)) (label : List ℕ) → Goes n → length text - p < suc n → HasDot text p → IsInOrder text start p front label → read_on text start p front label ≡ Err fault → FirstTextFault text fault
  on_dot n start p front label rest enough has order e = at_end start p front label order (inl has) e (λ some short. elim (cases_lt (p + 1) (length text)) [
    | inl more ↦ rest (p + 1) (p + 1) (front ++ label ∷ []) [] (omega (arith, has.0)) (omega arith) (omega arith) (over_dot start p front label order has more some short) (sym (dot_on text start p front label has more some short) ∙ e)
    | inr last ↦ let whole : read_on text start p front label ≡ Ok (front ++ label ∷ [], true) = ap (name_on (length text) front start label) (spots_dot text p has.0 has.1 ∙ ap (λ (spots : List Spot). dot p ∷ spots) (spots_end (p + 1) text (p + 1) last)) ∙ rw (joins front start label p some short) refl in
        ok_never (front ++ label ∷ [], true) fault (sym whole ∙ e)
  ])

  on_some : (n start p b next : ℕ) (front : List (List ℕ)) (label : List ℕ) → Goes n → length text - next < n → next ≤ length text → length label ≤ 63
      → HasByte text p b next → IsInOrder text start p front label → read_on text start p front label ≡ Err fault → FirstTextFault text fault
  on_some n start p b next front label rest enough within few has order e = elim (cases_eq (length label) 63) [
    | inl full ↦ here_fails start p front label (LongLabel p) order (refl, full, b, next, has) e
    | inr fewer ↦ let less : length label < 63 = omega arith in
        rest start next front (label ++ b ∷ []) enough within (omega (arith, length-append label (b ∷ []))) (over_byte start p front label b next order has less) (sym (byte_on text start p front label b next has less) ∙ e)
  ]

  on_slash : (n start p : ℕ) (front : List (List ℕ)) (label : List ℕ) (escape : Option (ℕ × List ℕ)) → escaped (drop (p + 1) text) ≡ escape → Goes n → length text - p < suc n → p < length text → get_or text p 0 ≡ 92 → length label ≤ 63
      → IsInOrder text start p front label → read_on text start p front label ≡ Err fault → FirstTextFault text fault
  on_slash n start p front label None is rest enough lt slash few order e = here_fails start p front label (BadEscape p) order (refl, (lt, slash, is)) e
  on_slash n start p front label (Some found) is rest enough lt slash few order e =
      let behind = escape_long (drop (p + 1) text) found is in
      let within : p + 1 + behind.0 ≤ length text = omega (arith, behind.2, length-drop (p + 1) text) in
      let same : found.1 ≡ drop (p + 1 + behind.0) text = behind.1 ∙ drop-drop behind.0 (p + 1) text in
      let has : HasByte text p found.0 (p + 1 + behind.0) = quoted found.0 (p + 1 + behind.0) lt slash (is ∙ ap (λ (rest : List ℕ). Some (found.0, rest)) same) (omega arith) within in
      on_some n start p found.0 (p + 1 + behind.0) front label rest (omega arith) within few has order e

  goes : (n : ℕ) → Goes n
  goes zero start p front label enough within few order e = absurd (omega arith)
  goes (suc n) start p front label enough within few order e = elim (cases_lt p (length text)) [
    | inr past ↦ on_end start p front label (omega arith) order e
    | inl lt ↦ elim (cases_eq (get_or text p 0) 46) [
      | inl is_dot ↦ on_dot n start p front label (goes n) enough (lt, is_dot) order e
      | inr no_dot ↦ elim (cases_eq (get_or text p 0) 92) [
        | inl slash ↦ on_slash n start p front label (escaped (drop (p + 1) text)) refl (goes n) enough lt slash few order e
        | inr no_slash ↦ on_some n start p (get_or text p 0) (p + 1) front label (goes n) (omega arith) (omega arith) few (plain lt no_dot no_slash) order e
      ]
    ]
  ]

-- the reading of a text ends exactly at the first fault
pub text_ends : (text : List ℕ) (fault : NameFault) → (name_read text ≡ Err fault) ↔ FirstTextFault text fault
text_ends text fault = (λ e. by_test (bytes_eq text (codes ".")) refl e, λ first. by_root first (bytes_eq text (codes ".")) refl) where
  by_test : (root : Bool) → bytes_eq text (codes ".") ≡ root → cond root (Ok ([], true)) (name_on (length text) [] 0 [] (spots_of 0 text)) ≡ Err fault → FirstTextFault text fault
  by_test true is e = ok_never ([], true) fault e
  by_test false is e =
      let no_root : text ≢ codes "." = λ same. let yes = (bytes_eq-Decides text (codes ".")).1 same in absurd cc in
      goes text no_root fault (length text + 1) 0 0 [] [] (omega arith) (omega arith) (omega arith) begins e

  by_root : FirstTextFault text fault → (root : Bool) → bytes_eq text (codes ".") ≡ root → cond root (Ok ([], true)) (name_on (length text) [] 0 [] (spots_of 0 text)) ≡ Err fault
  by_root first true is = absurd (first.no_root ((bytes_eq-Decides text (codes ".")).0 is))
  by_root first false is =
      order_reads text first.start first.at first.front first.label fault first.order (fails_reads text first.start first.at first.front first.label fault first.fails)

-- ---- labels

-- a label of at most 63 bytes behind those in front
labels_few : (front : List (List ℕ)) (i : ℕ) (label : List ℕ) (labels : List (List ℕ)) → length label ≤ 63
    → labels_on front i (label ∷ labels) ≡ and_then (with_label front i label i) (λ front. labels_on front (i + 1) labels)
labels_few front i label labels few = let test : ltb 63 (length label) ≡ false = le-ltb 63 (length label) few in rw test refl

labels_join : (front : List (List ℕ)) (i : ℕ) (label : List ℕ) (labels : List (List ℕ)) → length label ≤ 63 → 1 ≤ length label → wire_length (front ++ label ∷ []) ≤ 255
    → labels_on front i (label ∷ labels) ≡ labels_on (front ++ label ∷ []) (i + 1) labels
labels_join front i label labels few some short = labels_few front i label labels few ∙ rw (joins front i label i some short) refl

spoils_reads : (front : List (List ℕ)) (i : ℕ) (label : List ℕ) (labels : List (List ℕ)) (fault : NameFault) → SpoilsAt i front label fault → labels_on front i (label ∷ labels) ≡ Err fault
spoils_reads front i label labels (EmptyLabel at) spoils =
    labels_few front i label labels (omega (arith, spoils.1)) ∙ rw (empty_stops front i label i spoils.1) refl ∙ ap (λ (n : ℕ). Err (EmptyLabel n)) (sym spoils.0)
spoils_reads front i label labels (LongLabel at) spoils =
    let test : ltb 63 (length label) ≡ true = lt-ltb 63 (length label) spoils.1 in rw test refl ∙ ap (λ (n : ℕ). Err (LongLabel n)) (sym spoils.0)
spoils_reads front i label labels (LongName at) spoils =
    labels_few front i label labels spoils.2 ∙ rw (long_stops front i label i spoils.1 spoils.3) refl ∙ ap (λ (n : ℕ). Err (LongName n)) (sym spoils.0)
spoils_reads front i label labels (BadEscape at) spoils = absurd spoils
spoils_reads front i label labels NoMemory spoils = absurd spoils

module _ (all : List (List ℕ)) (fault : NameFault) where
  label_spoils : (front : List (List ℕ)) (label : List ℕ) (labels : List (List ℕ)) (found : NameFault) → all ≡ front ++ label ∷ labels → IsName front → SpoilsAt (length front) front label found
      → labels_on front (length front) (label ∷ labels) ≡ Err fault → FirstLabelFault all fault
  label_spoils front label labels found parts name spoils e =
      subst (λ (f : NameFault). FirstLabelFault all f) (fault_is found fault (sym (spoils_reads front (length front) label labels found spoils) ∙ e))
      (record { front = front; label = label; behind = labels; parts = parts; name = name; spoils = spoils })

  labels_go : (front labels : List (List ℕ)) → all ≡ front ++ labels → IsName front → labels_on front (length front) labels ≡ Err fault → FirstLabelFault all fault
  labels_go front [] parts name e = ok_never front fault e
  labels_go front (label ∷ labels) parts name e = elim (cases_lt 63 (length label)) [
    | inl long ↦ label_spoils front label labels (LongLabel (length front)) parts name (refl, long) e
    | inr few ↦ elim (three_ways front (length front) label (length front)) [
      | inl none ↦ label_spoils front label labels (EmptyLabel (length front)) parts name (refl, none) e
      | inr others ↦ elim others [
        | inl wide ↦ label_spoils front label labels (LongName (length front)) parts name (refl, wide.0, few, wide.1) e
        | inr room ↦ (let more : length (front ++ label ∷ []) ≡ length front + 1 = length-append front (label ∷ []) in
            labels_go (front ++ label ∷ []) labels (parts ∙ sym (append_assoc front (label ∷ []) labels))
            (pushed front label (wire_length front) (name, refl) (record { some = room.0; few = few }) (omega (arith, room.1, wire_one front label))).0
            (ap (λ (i : ℕ). labels_on (front ++ label ∷ []) i labels) more ∙ sym (labels_join front (length front) label labels few room.0 room.1) ∙ e))
      ]
    ]
  ]

-- a label in the midst of a name is one
label_within : (front : List (List ℕ)) (label : List ℕ) (labels : List (List ℕ)) → AllByRecursion IsLabel (front ++ label ∷ labels) → IsLabel label
label_within [] label labels each = each.0
label_within (x ∷ front) label labels each = label_within front label labels each.1

labels_walk : (front middle rest : List (List ℕ)) → IsName (front ++ middle) → labels_on front (length front) (middle ++ rest) ≡ labels_on (front ++ middle) (length (front ++ middle)) rest
labels_walk front [] rest name = rw (append-nil front) refl
labels_walk front (label ∷ middle) rest name =
    let is = label_within front label middle name.each in
    let some = is.some in
    let few = is.few in
    let short = name.short in
    let fits : wire_length (front ++ label ∷ []) ≤ 255 = omega (arith, short, wire_append front (label ∷ middle), wire_one front label, wire_some middle) in
    let same : (front ++ label ∷ []) ++ middle ≡ front ++ label ∷ middle = append_assoc front (label ∷ []) middle in
    let more : length front + 1 ≡ length (front ++ label ∷ []) = sym (length-append front (label ∷ [])) in
    labels_join front (length front) label (middle ++ rest) few some fits
    ∙ ap (λ (i : ℕ). labels_on (front ++ label ∷ []) i (middle ++ rest)) more
    ∙ labels_walk (front ++ label ∷ []) middle rest (subst (λ (labels : List (List ℕ)). IsName labels) (sym same) name)
    ∙ ap (λ (labels : List (List ℕ)). labels_on labels (length labels) rest) same

-- the reading of labels ends exactly at the first fault
pub labels_end : (labels : List (List ℕ)) (fault : NameFault) → (labels_read labels ≡ Err fault) ↔ FirstLabelFault labels fault
labels_end labels fault = (
  λ e. labels_go labels fault [] labels refl (record { each = tt; short = omega arith }) e,
  λ first. ap labels_read first.parts ∙ labels_walk [] first.front (first.label ∷ first.behind) first.name
      ∙ spoils_reads first.front (length first.front) first.label first.behind fault first.spoils,
)
