-- Names: reading ends at the first fault.
use Rattle.std.proofs.Common.{◌≡◌, ◌≢◌, ℕ, zero, suc, ◌+◌, ◌-◌, ◌*◌, ◌<◌, ◌≤◌, Bool, true, false, cond, eqb, ltb, leb, List, [], ◌∷◌, ◌++◌, length, Result, Ok, Err, inl, inr, refl, sym, ap, subst, ◌∙◌, arith}
use Rattle.std.specs.Prelude.{◌||◌}
use Rattle.std.proofs.lemmas.Bool.{cases_lt, cases_eq, ltb-true, ltb-false, leb-true, leb-false, lt-ltb, le-ltb, le-leb, or_cases, or_parts, eqb-true, ne_eqb}
use Rattle.dns_message.specs.Name.{IsLabel, wire_length}
use Rattle.dns_message.specs.declared.fault.MessageFault.{MessageFault}
use Rattle.dns_message.specs.declared.fault.MessageFault.TheVariants.{ShortHeader, ShortPart, BadLabel, BadPointer, LongName, BadRdata, TrailingBytes, NoMemory}
use Rattle.dns_message.specs.Reading.{◌>>=◌, byte_at, label_of, label_end, name_of}
use Rattle.dns_message.specs.Grammar.{HasLabel, HasPointer}
use Rattle.dns_message.specs.MessageFaults.{ComesTo, begins, over_label, over_pointer, IsCut, at_end, in_pointer, in_label, StopsAt, NameFails}
use Rattle.dns_message.proofs.RunLemmas.{name_from, name_whole}
use Rattle.dns_message.proofs.StepLemmas.{bind_stops, bind_err, never_err, err_is, guard_err}
use Rattle.dns_message.proofs.RunGrammarLemmas.{rest_of, name_is_rest, rest_past, rest_root, rest_cut, rest_stops, rest_on, label_read, label_stands, label_tells, wire_more, two_bytes, over_label_read, at_pointer_read, over_pointer_read}

-- ---- what reading finds is a fault

-- a byte that begins no label, or a label that is cut or too long
label_fault : (bytes : List ℕ) (start run p : ℕ) (front : List (List ℕ)) (fault : MessageFault) → p < length bytes → byte_at bytes p ≢ 0 → byte_at bytes p < 192 → label_end bytes start p front ≡ Err fault → StopsAt bytes start run p front fault
label_fault bytes start run p front fault lt some low e =
    let b = byte_at bytes p in
    let room = cond {A = Result ℕ MessageFault} (ltb 255 (wire_length front + b + 1)) (Err (LongName start)) (Ok (p + 1 + b)) in
    elim (guard_err (eqb b 0 || ltb 63 b) (BadLabel p) (cond (ltb (length bytes - p - 1) b) (Err (ShortPart start)) room) fault e) [
      | inl bad ↦ elim (or_cases (eqb b 0) (ltb 63 b) bad.0) [
        | inl root_byte ↦ absurd (some (eqb-true b 0 root_byte))
        | inr high ↦ subst (λ (d : MessageFault). StopsAt bytes start run p front d) bad.1 (refl, lt, omega (arith, ltb-true 63 b high), omega arith)
      ]
      | inr label ↦ elim (guard_err (ltb (length bytes - p - 1) b) (ShortPart start) room fault label.1) [
        | inl short ↦ subst (λ (d : MessageFault). StopsAt bytes start run p front d) short.1
            (refl, in_label lt (omega arith) (omega (arith, few label.0)) (omega (arith, ltb-true (length bytes - p - 1) b short.0)))
        | inr whole ↦ elim (guard_err (ltb 255 (wire_length front + b + 1)) (LongName start) (Ok (p + 1 + b)) fault whole.1) [
          | inl long ↦ subst (λ (d : MessageFault). StopsAt bytes start run p front d) long.1 (too_long (few label.0) (fits whole.0) (ltb-true 255 (wire_length front + b + 1) long.0))
          | inr end ↦ never_err (p + 1 + b) fault end.1
        ]
      ]
    ] where
      few : (eqb (byte_at bytes p) 0 || ltb 63 (byte_at bytes p)) ≡ false → byte_at bytes p ≤ 63
      few e = ltb-false 63 (byte_at bytes p) (or_parts (eqb (byte_at bytes p) 0) (ltb 63 (byte_at bytes p)) e).1

      fits : ltb (length bytes - p - 1) (byte_at bytes p) ≡ false → byte_at bytes p ≤ length bytes - p - 1
      fits e = ltb-false (length bytes - p - 1) (byte_at bytes p) e

      too_long : byte_at bytes p ≤ 63 → byte_at bytes p ≤ length bytes - p - 1 → 255 < wire_length front + byte_at bytes p + 1 → StopsAt bytes start run p front (LongName start)
      too_long few whole long =
          let stands = label_stands bytes p lt whole in
          (refl, label_of bytes p, record { is = record { some = omega (arith, stands.0); few = omega (arith, stands.0) }; here = stands.1 }, omega (arith, stands.0, wire_more front (label_of bytes p)))

-- what the targets before a run give
abbrev TargetsFail : List ℕ → ℕ → ℕ → MessageFault → Type 0
TargetsFail bytes start run fault = (target : ℕ) (front : List (List ℕ)) → target < run → ComesTo bytes start target target front → name_from bytes start target front ≡ Err fault → NameFails bytes start fault

module _ (bytes : List ℕ) (start run : ℕ) (fault : MessageFault) (on : TargetsFail bytes start run fault) where
  -- the fault is the one found here
  here_fails : (p : ℕ) (front : List (List ℕ)) (found : MessageFault) → ComesTo bytes start run p front → StopsAt bytes start run p front found → found ≡ fault → NameFails bytes start fault
  here_fails p front found comes stops same = subst (λ (d : MessageFault). NameFails bytes start d) same (record { run = run; at = p; front = front; comes = comes; stops = stops })

  pointer_fails : (p : ℕ) (front : List (List ℕ)) → ComesTo bytes start run p front → p < length bytes → byte_at bytes p ≢ 0 → 192 ≤ byte_at bytes p → 2 ≤ length bytes - p → rest_of bytes start run p front ≡ Err fault → NameFails bytes start fault
  pointer_fails p front comes lt some high whole e =
      let target = (byte_at bytes p - 192) * 256 + byte_at bytes (p + 1) in
      let has : HasPointer bytes p target = record { whole = omega arith; top_bits = high; offset = omega (arith, two_bytes bytes p) } in
      elim (guard_err (leb run target) (BadPointer p) (name_from bytes start target front >>= λ name. Ok (name.0, p + 2)) fault (sym (at_pointer_read bytes start run p front target has) ∙ e)) [
        | inl bad ↦ here_fails p front (BadPointer p) comes (refl, target, has, leb-true run target bad.0) bad.1
        | inr good ↦ elim (bind_err (name_from bytes start target front) (λ name. Ok (name.0, p + 2)) fault good.1) [
          | inl there ↦ let before : target < run = leb-false run target good.0 in on target front before (over_pointer run p front target comes has before) there
          | inr end ↦ never_err (end.0.0, p + 2) fault end.2
        ]
      ]

  on_label : (n p : ℕ) (front : List (List ℕ)) → ((end : ℕ) (more : List (List ℕ)) → length bytes - end < n → ComesTo bytes start run end more → rest_of bytes start run end more ≡ Err fault → NameFails bytes start fault)
      → length bytes - p < suc n → ComesTo bytes start run p front → p < length bytes → byte_at bytes p ≢ 0 → byte_at bytes p < 192 → rest_of bytes start run p front ≡ Err fault → (r : Result ℕ MessageFault) → label_end bytes start p front ≡ r → NameFails bytes start fault
  on_label n p front rest enough comes lt some low e (Err found) f =
      here_fails p front found comes (label_fault bytes start run p front found lt some low f) (err_is found fault (sym (rest_stops bytes start run p front lt some low found f) ∙ e))
  on_label n p front rest enough comes lt some low e (Ok end) f =
      let fits = label_tells bytes start p front end f in
      let stands = label_stands bytes p lt fits.whole in
      let next = label_of bytes p in
      let is : IsLabel next = record { some = omega (arith, stands.0, fits.some); few = omega (arith, stands.0, fits.few) } in
      let room : wire_length (front ++ next ∷ []) ≤ 255 = omega (arith, wire_more front next, stands.0, fits.room) in
      let at : p + 1 + length next ≡ end = omega (arith, stands.0, fits.end) in
      let more : ComesTo bytes start run end (front ++ next ∷ []) = subst (λ (k : ℕ). ComesTo bytes start run k (front ++ next ∷ [])) at (over_label run p front next comes (record { is = is; here = stands.1 }) room) in
      rest end (front ++ next ∷ []) (omega (arith, fits.end)) more (sym (rest_on bytes start run p front lt some low end f) ∙ e)

  rest_fails : (n p : ℕ) (front : List (List ℕ)) → length bytes - p < n → ComesTo bytes start run p front → rest_of bytes start run p front ≡ Err fault → NameFails bytes start fault
  rest_fails zero p front enough comes e = absurd (omega arith)
  rest_fails (suc n) p front enough comes e = elim (cases_lt p (length bytes)) [
    | inr past ↦ here_fails p front (ShortPart start) comes (refl, at_end past) (err_is (ShortPart start) fault (sym (rest_past bytes start run p front past) ∙ e))
    | inl lt ↦ elim (cases_eq (byte_at bytes p) 0) [
      | inl zero_byte ↦ never_err (front, p + 1) fault (sym (rest_root bytes start run p front lt zero_byte) ∙ e)
      | inr some ↦ elim (cases_lt (byte_at bytes p) 192) [
        | inr high ↦ elim (cases_lt (length bytes - p) 2) [
          | inl short ↦ here_fails p front (ShortPart start) comes (refl, in_pointer lt high (omega arith)) (err_is (ShortPart start) fault (sym (rest_cut bytes start run p front lt some high short) ∙ e))
          | inr whole ↦ pointer_fails p front comes lt some high whole e
        ]
        | inl low ↦ on_label n p front (λ end more enough comes e. rest_fails n end more enough comes e) enough comes lt some low e (label_end bytes start p front) refl
      ]
    ]
  ]

name_from_fails : (m : ℕ) (bytes : List ℕ) (start run : ℕ) (front : List (List ℕ)) (fault : MessageFault) → run < m → ComesTo bytes start run run front → name_from bytes start run front ≡ Err fault → NameFails bytes start fault
name_from_fails zero bytes start run front fault lt comes e = absurd (omega arith)
name_from_fails (suc m) bytes start run front fault lt comes e =
    rest_fails bytes start run fault (λ target front before comes e. name_from_fails m bytes start target front fault (omega arith) comes e)
    (length bytes - run + 1) run front (omega arith) comes (sym (name_is_rest bytes start run front) ∙ e)

pub name_fault_found : (bytes : List ℕ) (p : ℕ) (fault : MessageFault) → name_of bytes p ≡ Err fault → NameFails bytes p fault
name_fault_found bytes p fault e = name_from_fails (p + 1) bytes p p [] fault (omega arith) begins (sym (name_whole bytes p) ∙ e)

-- ---- a fault is what reading finds

comes_reads : (bytes : List ℕ) (start run p : ℕ) (front : List (List ℕ)) (fault : MessageFault) → ComesTo bytes start run p front → rest_of bytes start run p front ≡ Err fault → name_of bytes start ≡ Err fault
comes_reads bytes start run p front fault begins e = name_whole bytes start ∙ name_is_rest bytes start start [] ∙ e
comes_reads bytes start run _ _ fault (over_label _ p front next comes has room) e =
    comes_reads bytes start run p front fault comes (over_label_read bytes start run p front next has room ∙ e)
comes_reads bytes start _ _ front fault (over_pointer run p _ target comes has before) e =
    comes_reads bytes start run p front fault comes (over_pointer_read bytes start run p front target has before
    ∙ bind_stops (name_from bytes start target front) (λ name. Ok (name.0, p + 2)) fault (name_is_rest bytes start target front ∙ e))

module _ (bytes : List ℕ) (start run p : ℕ) (front : List (List ℕ)) where
  cut_stops : IsCut bytes p → rest_of bytes start run p front ≡ Err (ShortPart start)
  cut_stops (at_end past) = rest_past bytes start run p front past
  cut_stops (in_pointer lt high short) = rest_cut bytes start run p front lt (omega arith) high (omega arith)
  cut_stops (in_label lt some few short) =
      let ne : eqb (byte_at bytes p) 0 ≡ false = ne_eqb (byte_at bytes p) 0 (omega arith) in
      let low : ltb 63 (byte_at bytes p) ≡ false = le-ltb 63 (byte_at bytes p) few in
      let cut : ltb (length bytes - p - 1) (byte_at bytes p) ≡ true = lt-ltb (length bytes - p - 1) (byte_at bytes p) (omega arith) in
      rest_stops bytes start run p front lt (omega arith) (omega arith) (ShortPart start) (rw (ne, low, cut) refl)

  bad_stops : p < length bytes → 64 ≤ byte_at bytes p → byte_at bytes p ≤ 191 → rest_of bytes start run p front ≡ Err (BadLabel p)
  bad_stops lt high low =
      let ne : eqb (byte_at bytes p) 0 ≡ false = ne_eqb (byte_at bytes p) 0 (omega arith) in
      let long : ltb 63 (byte_at bytes p) ≡ true = lt-ltb 63 (byte_at bytes p) (omega arith) in
      rest_stops bytes start run p front lt (omega arith) (omega arith) (BadLabel p) (rw (ne, long) refl)

  long_stops : (next : List ℕ) → HasLabel bytes p next → 255 < wire_length (front ++ next ∷ []) → rest_of bytes start run p front ≡ Err (LongName start)
  long_stops next has long =
      let read = label_read bytes p next has.here in
      let some : byte_at bytes p ≢ 0 = omega (arith, read.len, has.is.some) in
      let few : byte_at bytes p ≤ 63 = omega (arith, read.len, has.is.few) in
      let ne : eqb (byte_at bytes p) 0 ≡ false = ne_eqb (byte_at bytes p) 0 some in
      let low : ltb 63 (byte_at bytes p) ≡ false = le-ltb 63 (byte_at bytes p) few in
      let whole : ltb (length bytes - p - 1) (byte_at bytes p) ≡ false = le-ltb (length bytes - p - 1) (byte_at bytes p) (omega (arith, read.len, read.whole)) in
      let no_room : ltb 255 (wire_length front + byte_at bytes p + 1) ≡ true = lt-ltb 255 (wire_length front + byte_at bytes p + 1) (omega (arith, read.len, wire_more front next)) in
      rest_stops bytes start run p front read.within some (omega arith) (LongName start) (rw (ne, low, whole, no_room) refl)

  stop_is_read : (fault : MessageFault) → StopsAt bytes start run p front fault → rest_of bytes start run p front ≡ Err fault
  stop_is_read ShortHeader stops = absurd stops
  stop_is_read (ShortPart at) stops = cut_stops stops.1 ∙ ap (λ (k : ℕ). Err (ShortPart k)) (sym stops.0)
  stop_is_read (BadLabel at) stops = bad_stops stops.1 stops.2 stops.3 ∙ ap (λ (k : ℕ). Err (BadLabel k)) (sym stops.0)
  stop_is_read (BadPointer at) stops =
      let test : leb run stops.1 ≡ true = le-leb run stops.1 stops.3 in
      at_pointer_read bytes start run p front stops.1 stops.2
      ∙ ap (λ (t : Bool). cond t (Err (BadPointer p)) (name_from bytes start stops.1 front >>= λ name. Ok (name.0, p + 2))) test
      ∙ ap (λ (k : ℕ). Err (BadPointer k)) (sym stops.0)
  stop_is_read (LongName at) stops = long_stops stops.1 stops.2 stops.3 ∙ ap (λ (k : ℕ). Err (LongName k)) (sym stops.0)
  stop_is_read (BadRdata at) stops = absurd stops
  stop_is_read (TrailingBytes at) stops = absurd stops
  stop_is_read NoMemory stops = absurd stops

pub name_fault_is_read : (bytes : List ℕ) (p : ℕ) (fault : MessageFault) → NameFails bytes p fault → name_of bytes p ≡ Err fault
name_fault_is_read bytes p fault fails = comes_reads bytes p fails.run fails.at fails.front fault fails.comes (stop_is_read bytes p fails.run fails.at fails.front fault fails.stops)
