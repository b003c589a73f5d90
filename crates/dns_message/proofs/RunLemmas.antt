-- Runs of labels and names: one part, and what is behind it.
use Rattle.std.proofs.Common.{◌≡◌, ◌≢◌, ℕ, zero, suc, ◌+◌, ◌-◌, ◌*◌, ◌<◌, ◌≤◌, Bool, true, false, cond, eqb, ltb, leb, List, [], ◌∷◌, ◌++◌, length, Option, Some, None, Result, Ok, Err, inl, inr, refl, ap, ◌∙◌, add-one, arith}
use Rattle.std.specs.Prelude.{◌⊎◌, ◌||◌, unwrap_or, IfSome, IfNone}
use Rattle.std.proofs.lemmas.Bool.{ne_eqb}
use Rattle.std.proofs.lemmas.Bool.Decides.{nat_tests}
use Rattle.dns_message.specs.Name.{wire_length}
use Rattle.dns_message.specs.declared.fault.MessageFault.{MessageFault}
use Rattle.dns_message.specs.declared.fault.MessageFault.TheVariants.{ShortPart, BadPointer}
use Rattle.dns_message.specs.declared.name_reading.RunEnd.{RunEnd}
use Rattle.dns_message.specs.declared.name_reading.RunEnd.TheVariants.{Root, Pointer}
use Rattle.dns_message.specs.Reading.{RunPart, ends, goes_on}
use Rattle.dns_message.specs.Reading.{◌>>=◌, byte_at, label_of, label_end, run_part, ended_or, run_within, run_of, after_run, name_within, name_of}

-- steps that go on the same
pub then_same : {A B : Type 0} (r : Result A MessageFault) (f g : A → Result B MessageFault) → ((x : A) → r ≡ Ok x → f x ≡ g x) → (r >>= f) ≡ (r >>= g)
then_same (Ok x) f g h = h x refl
then_same (Err e) f g h = refl

-- which of two was chosen
pub chosen : {A : Type 0} (b : Bool) (x y z : A) → cond b x y ≡ z → ((b ≡ true) × (x ≡ z)) ⊎ ((b ≡ false) × (y ≡ z))
chosen true x y z e = inl (refl, e)
chosen false x y z e = inr (refl, e)

-- a label ends behind its length byte
label_after : (bytes : List ℕ) (start p : ℕ) (front : List (List ℕ)) (next : ℕ) → label_end bytes start p front ≡ Ok next → p < next
label_after bytes start p front next e = elim (chosen (eqb (byte_at bytes p) 0 || ltb 63 (byte_at bytes p)) _ _ _ e) [
  | inl bad ↦ absurd (let h = bad.1 in cc)
  | inr a ↦ elim (chosen (ltb (length bytes - p - 1) (byte_at bytes p)) _ _ _ a.1) [
    | inl short ↦ absurd (let h = short.1 in cc)
    | inr b ↦ elim (chosen (ltb 255 (wire_length front + byte_at bytes p + 1)) _ _ _ b.1) [
      | inl long ↦ absurd (let h = long.1 in cc)
      | inr fits ↦ after (p + 1 + byte_at bytes p) fits.1 (omega arith)
    ]
  ]
] where
  after : (n : ℕ) → ◌≡◌ {A = Result ℕ MessageFault} (Ok n) (Ok next) → p < n → p < next
  after n same lt = let is : n ≡ next = cc in rw (← is) lt

-- a run goes on behind a label, in the message
part_after : (bytes : List ℕ) (start p : ℕ) (front : List (List ℕ)) (next : ℕ) → run_part bytes start p front ≡ Ok (goes_on next) → (p < length bytes) × (p < next)
part_after bytes start p front next e = elim (chosen (leb (length bytes) p) _ _ _ e) [
  | inl past ↦ absurd (let h = past.1 in cc)
  | inr a ↦ elim (chosen (eqb (byte_at bytes p) 0) _ _ _ a.1) [
    | inl root ↦ absurd (let h = root.1 in cc)
    | inr b ↦ elim (chosen (leb 192 (byte_at bytes p)) _ _ _ b.1) [
      | inl pointer ↦ elim (chosen (ltb (length bytes - p) 2) _ _ _ pointer.1) [
        | inl short ↦ absurd (let h = short.1 in cc)
        | inr whole ↦ absurd (let h = whole.1 in cc)
      ]
      | inr label ↦ (within a.0, by_end (label_end bytes start p front) (label_after bytes start p front) label.1)
    ]
  ]
] where
  within : leb (length bytes) p ≡ false → p < length bytes
  within h = grind (arith, nat_tests)

  by_end : (r : Result ℕ MessageFault) → ((n : ℕ) → r ≡ Ok n → p < n) → (r >>= λ n. Ok (goes_on n)) ≡ Ok (goes_on next) → p < next
  by_end (Ok n) h same = let is : n ≡ next = cc in rw (← is) (h n refl)
  by_end (Err e) h same = absurd cc

-- any number of parts will do that is enough
run_enough : (n m : ℕ) (bytes : List ℕ) (start p : ℕ) (front : List (List ℕ)) → length bytes - p < n → length bytes - p < m → run_within n bytes start p front ≡ run_within m bytes start p front
run_enough zero m bytes start p front a b = absurd (omega arith)
run_enough (suc n) zero bytes start p front a b = absurd (omega arith)
run_enough (suc n) (suc m) bytes start p front a b = then_same (run_part bytes start p front) _ _
    (by_part (λ next within after. run_enough n m bytes start next (front ++ label_of bytes p ∷ []) (omega arith) (omega arith))) where
      by_part : ((next : ℕ) → p < length bytes → p < next → run_within n bytes start next (front ++ label_of bytes p ∷ []) ≡ run_within m bytes start next (front ++ label_of bytes p ∷ []))
          → (part : RunPart) → run_part bytes start p front ≡ Ok part
          → ended_or (λ next. run_within n bytes start next (front ++ label_of bytes p ∷ [])) front part ≡ ended_or (λ next. run_within m bytes start next (front ++ label_of bytes p ∷ [])) front part
      by_part same (ends end) e = refl
      by_part same (goes_on next) e = let after = part_after bytes start p front next e in same next after.0 after.1

-- a run is its first part and the run behind it
pub run_first : (bytes : List ℕ) (start p : ℕ) (front : List (List ℕ)) → run_of bytes start p front ≡ (run_part bytes start p front >>= ended_or (λ next. run_of bytes start next (front ++ label_of bytes p ∷ [])) front)
unfolding run_of
run_first bytes start p front = rw add-one (then_same (run_part bytes start p front) _ _ (λ part e. by_part part e)) where
  by_part : (part : RunPart) → run_part bytes start p front ≡ Ok part
      → ended_or (λ next. run_within (length bytes) bytes start next (front ++ label_of bytes p ∷ [])) front part ≡ ended_or (λ next. run_within (suc (length bytes)) bytes start next (front ++ label_of bytes p ∷ [])) front part
  by_part (ends end) e = refl
  by_part (goes_on next) e = let after = part_after bytes start p front next e in run_enough (length bytes) (suc (length bytes)) bytes start next (front ++ label_of bytes p ∷ []) (omega arith) (omega arith)

-- ---- the parts of a run

module _ (bytes : List ℕ) (start p : ℕ) (front : List (List ℕ)) where
  pub run_past : length bytes ≤ p → run_of bytes start p front ≡ Err (ShortPart start)
  run_past past = let test : leb (length bytes) p ≡ true = grind (arith, nat_tests) in run_first bytes start p front ∙ rw test refl

  pub run_root : p < length bytes → byte_at bytes p ≡ 0 → run_of bytes start p front ≡ Ok (front, Root (p + 1))
  run_root lt e = let test : leb (length bytes) p ≡ false = grind (arith, nat_tests) in run_first bytes start p front ∙ rw (test, e) refl

  module _ (lt : p < length bytes) (some : byte_at bytes p ≢ 0) where
    pub run_cut : 192 ≤ byte_at bytes p → length bytes - p < 2 → run_of bytes start p front ≡ Err (ShortPart start)
    run_cut pointer short =
        let within : leb (length bytes) p ≡ false = grind (arith, nat_tests) in
        let no : eqb (byte_at bytes p) 0 ≡ false = ne_eqb (byte_at bytes p) 0 some in
        let is : leb 192 (byte_at bytes p) ≡ true = grind (arith, nat_tests) in
        let cut : ltb (length bytes - p) 2 ≡ true = grind (arith, nat_tests) in
        run_first bytes start p front ∙ rw (within, no, is, cut) refl

    pub run_pointer : 192 ≤ byte_at bytes p → 2 ≤ length bytes - p → run_of bytes start p front ≡ Ok (front, Pointer p ((byte_at bytes p - 192) * 256 + byte_at bytes (p + 1)))
    run_pointer pointer whole =
        let within : leb (length bytes) p ≡ false = grind (arith, nat_tests) in
        let no : eqb (byte_at bytes p) 0 ≡ false = ne_eqb (byte_at bytes p) 0 some in
        let is : leb 192 (byte_at bytes p) ≡ true = grind (arith, nat_tests) in
        let cut : ltb (length bytes - p) 2 ≡ false = grind (arith, nat_tests) in
        run_first bytes start p front ∙ rw (within, no, is, cut) refl

    run_label : byte_at bytes p < 192 → run_of bytes start p front ≡ ((label_end bytes start p front >>= λ next. Ok (goes_on next)) >>= ended_or (λ next. run_of bytes start next (front ++ label_of bytes p ∷ [])) front)
    run_label low =
        let within : leb (length bytes) p ≡ false = grind (arith, nat_tests) in
        let no : eqb (byte_at bytes p) 0 ≡ false = ne_eqb (byte_at bytes p) 0 some in
        let is : leb 192 (byte_at bytes p) ≡ false = grind (arith, nat_tests) in
        run_first bytes start p front ∙ rw (within, no, is) refl

    pub run_on : byte_at bytes p < 192 → (next : ℕ) → label_end bytes start p front ≡ Ok next → run_of bytes start p front ≡ run_of bytes start next (front ++ label_of bytes p ∷ [])
    run_on low next e = run_label low ∙ rw e refl

    pub run_stops : byte_at bytes p < 192 → (fault : MessageFault) → label_end bytes start p front ≡ Err fault → run_of bytes start p front ≡ Err fault
    run_stops low fault e = run_label low ∙ rw e refl

-- ---- names

-- any number of runs will do that is enough
name_enough : (n m : ℕ) (bytes : List ℕ) (start run : ℕ) (front : List (List ℕ)) → run < n → run < m → name_within n bytes start run front ≡ name_within m bytes start run front
name_enough zero m bytes start run front a b = absurd (omega arith)
name_enough (suc n) zero bytes start run front a b = absurd (omega arith)
name_enough (suc n) (suc m) bytes start run front a b = then_same (run_of bytes start run front) _ _
    (λ found e. by_run (λ target labels before. name_enough n m bytes start target labels (omega arith) (omega arith)) found.0 found.1) where
      by_run : ((target : ℕ) (labels : List (List ℕ)) → target < run → name_within n bytes start target labels ≡ name_within m bytes start target labels)
          → (labels : List (List ℕ)) (end : RunEnd) → after_run (λ target labels. name_within n bytes start target labels) run (labels, end) ≡ after_run (λ target labels. name_within m bytes start target labels) run (labels, end)
      by_run same labels (Root next) = refl
      by_run same labels (Pointer at target) = by_test (leb run target) refl where
        by_test : (t : Bool) → leb run target ≡ t → cond {A = Result (List (List ℕ) × ℕ) MessageFault} t (Err (BadPointer at)) (name_within n bytes start target labels >>= λ name. Ok (name.0, at + 2)) ≡ cond {A = Result (List (List ℕ) × ℕ) MessageFault} t (Err (BadPointer at)) (name_within m bytes start target labels >>= λ name. Ok (name.0, at + 2))
        by_test true e = refl
        by_test false e = let before : target < run = grind (arith, nat_tests) in ap (λ (r : Result (List (List ℕ) × ℕ) MessageFault). r >>= λ name. Ok (name.0, at + 2)) (same target labels before)

-- the name whose run from here on has these labels in front
abbrev pub name_from : List ℕ → ℕ → ℕ → List (List ℕ) → Result (List (List ℕ) × ℕ) MessageFault
name_from bytes start run front = name_within (run + 1) bytes start run front

pub name_whole : (bytes : List ℕ) (start : ℕ) → name_of bytes start ≡ name_from bytes start start []
unfolding name_of
name_whole bytes start = refl

module _ (bytes : List ℕ) (start run : ℕ) (front : List (List ℕ)) where
  pub name_stops : (fault : MessageFault) → run_of bytes start run front ≡ Err fault → name_from bytes start run front ≡ Err fault
  name_stops fault e = rw (add-one, e) refl

  pub name_root : (labels : List (List ℕ)) (next : ℕ) → run_of bytes start run front ≡ Ok (labels, Root next) → name_from bytes start run front ≡ Ok (labels, next)
  name_root labels next e = rw (add-one, e) refl

  module _ (labels : List (List ℕ)) (at target : ℕ) (e : run_of bytes start run front ≡ Ok (labels, Pointer at target)) where
    pub name_bad : run ≤ target → name_from bytes start run front ≡ Err (BadPointer at)
    name_bad past = let test : leb run target ≡ true = grind (arith, nat_tests) in rw (add-one, e, test) refl

    pub name_on : target < run → name_from bytes start run front ≡ (name_from bytes start target labels >>= λ name. Ok (name.0, at + 2))
    name_on before =
        let test : leb run target ≡ false = grind (arith, nat_tests) in
        let same : name_within run bytes start target labels ≡ name_from bytes start target labels = name_enough run (target + 1) bytes start target labels before (omega arith) in
        rw (add-one, e, test, same) refl

-- a name, of which the first pointer's end counts
abbrev pub ending : Option ℕ → Result (List (List ℕ) × ℕ) MessageFault → Result (List (List ℕ) × ℕ) MessageFault
ending after read = read >>= λ name. Ok (name.0, unwrap_or after name.1)

-- no pointer was met
pub ending_none : (read : Result (List (List ℕ) × ℕ) MessageFault) → read ≡ ending None read
ending_none (Ok name) = refl
ending_none (Err fault) = refl

-- a pointer more
pub ending_some : (after : Option ℕ) (at : ℕ) (read : Result (List (List ℕ) × ℕ) MessageFault) → ending after (read >>= λ name. Ok (name.0, at + 2)) ≡ ending (Some (unwrap_or after (at + 2))) read
ending_some after at (Ok name) = refl
ending_some after at (Err fault) = refl

-- the offset behind the first pointer is in the message
pub after_fits : (after : Option ℕ) (start run at len : ℕ) → IfNone after (run ≡ start) → IfSome after (λ end. (start < end) × (end ≤ len)) → run ≤ at → at + 2 ≤ len
    → (start < unwrap_or after (at + 2)) × (unwrap_or after (at + 2) ≤ len)
after_fits None start run at len first within from to = (omega arith, to)
after_fits (Some end) start run at len first within from to = within
