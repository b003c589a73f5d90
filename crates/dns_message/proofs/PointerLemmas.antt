-- A name that was read once is the name of each pointer to it. Faults say where a name began, so only a name that was read well is the same from another start.
use Rattle.std.proofs.Common.{◌≡◌, ◌≢◌, ℕ, zero, suc, ◌+◌, ◌-◌, ◌<◌, ◌≤◌, Bool, true, false, eqb, ltb, leb, List, [], ◌∷◌, ◌++◌, length, Some, Result, Ok, Err, inl, inr, get_or, refl, sym, ap, subst, ◌∙◌, arith}
use Rattle.std.specs.Prelude.{◌||◌, slice_get}
use Rattle.std.proofs.lemmas.Bool.Decides.{nat_tests}
use Rattle.std.proofs.lemmas.List.{length-append}
use Rattle.dns_message.specs.Name.{wire_length}
use Rattle.dns_message.specs.declared.fault.MessageFault.{MessageFault}
use Rattle.dns_message.specs.declared.name_reading.RunEnd.{RunEnd}
use Rattle.dns_message.specs.declared.name_reading.RunEnd.TheVariants.{Root, Pointer}
use Rattle.dns_message.specs.declared.message.Question.{Question}
use Rattle.dns_message.specs.Reading.{RunPart, ends, goes_on}
use Rattle.dns_message.specs.Reading.{◌>>=◌, byte_at, label_of, label_end, run_part, ended_or, run_within, run_of, after_run, name_within, name_of, part_of, question_of, items_of}
use Rattle.dns_message.specs.Pointers.{PointsTo, StandsAt}
use Rattle.dns_message.proofs.GrammarLemmas.{question_in}
use Rattle.dns_message.proofs.RunLemmas.{chosen, run_pointer, name_from, name_whole, name_on}
use Rattle.dns_message.proofs.StepLemmas.{bind_ok, guard_ok, ok_is}

-- steps of which each gives what the other gives, where that is a value
then_ok : {A B : Type 0} (r r' : Result A MessageFault) (f f' : A → Result B MessageFault) (y : B) → ((x : A) → r ≡ Ok x → r' ≡ Ok x) → ((x : A) → f x ≡ Ok y → f' x ≡ Ok y) → (r >>= f) ≡ Ok y → (r' >>= f') ≡ Ok y
then_ok (Ok x) r' f f' y same on e = rw (same x refl) (on x e)
then_ok (Err fault) r' f f' y same on e = absurd cc

module _ (bytes : List ℕ) (start other : ℕ) where
  label_from : (p : ℕ) (front : List (List ℕ)) (next : ℕ) → label_end bytes start p front ≡ Ok next → label_end bytes other p front ≡ Ok next
  label_from p front next e =
      let a = guard_ok (eqb (byte_at bytes p) 0 || ltb 63 (byte_at bytes p)) _ _ next e in
      let b = guard_ok (ltb (length bytes - p - 1) (byte_at bytes p)) _ _ next a.1 in
      let c = guard_ok (ltb 255 (wire_length front + byte_at bytes p + 1)) _ _ next b.1 in
      rw (a.0, b.0, c.0) c.1

  part_from : (p : ℕ) (front : List (List ℕ)) (part : RunPart) → run_part bytes start p front ≡ Ok part → run_part bytes other p front ≡ Ok part
  part_from p front part e =
      let a = guard_ok (leb (length bytes) p) _ _ part e in
      elim (chosen (eqb (byte_at bytes p) 0) _ _ _ a.1) [
        | inl root ↦ rw (a.0, root.0) root.1
        | inr b ↦ elim (chosen (leb 192 (byte_at bytes p)) _ _ _ b.1) [
          | inl pointer ↦ let whole = guard_ok (ltb (length bytes - p) 2) _ _ part pointer.1 in rw (a.0, b.0, pointer.0, whole.0) whole.1
          | inr label ↦ rw (a.0, b.0, label.0) (rw b.0 at (by_label label.1))
        ]
      ] where
        by_label : (label_end bytes start p front >>= λ next. Ok (goes_on next)) ≡ Ok part → (label_end bytes other p front >>= λ next. Ok (goes_on next)) ≡ Ok part
        by_label = then_ok (label_end bytes start p front) (label_end bytes other p front) (λ next. Ok (goes_on next)) (λ next. Ok (goes_on next)) part (label_from p front) (λ next h. h)

  run_from : (n p : ℕ) (front : List (List ℕ)) (found : List (List ℕ) × RunEnd) → run_within n bytes start p front ≡ Ok found → run_within n bytes other p front ≡ Ok found
  run_from zero p front found e = absurd cc
  run_from (suc n) p front found e =
      then_ok (run_part bytes start p front) (run_part bytes other p front) (ended_or (λ next. run_within n bytes start next (front ++ label_of bytes p ∷ [])) front) (ended_or (λ next. run_within n bytes other next (front ++ label_of bytes p ∷ [])) front) found (part_from p front) (on (λ next. run_from n next (front ++ label_of bytes p ∷ []) found)) e where
        on : ((next : ℕ) → run_within n bytes start next (front ++ label_of bytes p ∷ []) ≡ Ok found → run_within n bytes other next (front ++ label_of bytes p ∷ []) ≡ Ok found)
            → (part : RunPart) → ended_or (λ next. run_within n bytes start next (front ++ label_of bytes p ∷ [])) front part ≡ Ok found → ended_or (λ next. run_within n bytes other next (front ++ label_of bytes p ∷ [])) front part ≡ Ok found
        on same (ends end) h = h
        on same (goes_on next) h = same next h

  run_same : (p : ℕ) (front : List (List ℕ)) (found : List (List ℕ) × RunEnd) → run_of bytes start p front ≡ Ok found → run_of bytes other p front ≡ Ok found
  unfolding run_of
  run_same p front found e = run_from (length bytes + 1) p front found e

  names_from : (n run : ℕ) (front : List (List ℕ)) (name : List (List ℕ) × ℕ) → name_within n bytes start run front ≡ Ok name → name_within n bytes other run front ≡ Ok name
  names_from zero run front name e = absurd cc
  names_from (suc n) run front name e =
      then_ok (run_of bytes start run front) (run_of bytes other run front) (after_run (λ target labels. name_within n bytes start target labels) run) (after_run (λ target labels. name_within n bytes other target labels) run) name (run_same run front) (λ found h. on (names_from n) found.0 found.1 h) e where
        on : ((target : ℕ) (labels : List (List ℕ)) (found : List (List ℕ) × ℕ) → name_within n bytes start target labels ≡ Ok found → name_within n bytes other target labels ≡ Ok found)
            → (labels : List (List ℕ)) (end : RunEnd) → after_run (λ target labels. name_within n bytes start target labels) run (labels, end) ≡ Ok name → after_run (λ target labels. name_within n bytes other target labels) run (labels, end) ≡ Ok name
        on same labels (Root next) h = h
        on same labels (Pointer at target) h =
            let b = guard_ok (leb run target) _ _ name h in
            rw b.0 (then_ok (name_within n bytes start target labels) (name_within n bytes other target labels) (λ found. Ok (found.0, at + 2)) (λ found. Ok (found.0, at + 2)) name (same target labels) (λ found k. k) b.1)

-- ---- a pointer to a place before it

module _ (bytes : List ℕ) (at place : ℕ) (to : PointsTo bytes at place) where
  -- its run has no label
  run_to : run_of bytes at at [] ≡ Ok ([], Pointer at place)
  run_to = rw to.target (run_pointer bytes at at [] (omega (arith, to.whole)) (λ e. omega (arith, e, to.pointer)) to.pointer (omega (arith, to.whole)))

  name_to : name_of bytes at ≡ (name_from bytes at place [] >>= λ name. Ok (name.0, at + 2))
  name_to = name_whole bytes at ∙ name_on bytes at at [] [] at place run_to to.before

  -- it reads as what stands there
  pub pointed : (labels : List (List ℕ)) → StandsAt bytes place labels → name_of bytes at ≡ Ok (labels, at + 2)
  pointed labels read = name_to ∙ rw (names_from bytes place at (place + 1) place [] (labels, read.0) (sym (name_whole bytes place) ∙ read.1)) refl

  -- what it reads stands there
  pub led : (labels : List (List ℕ)) (next : ℕ) → name_of bytes at ≡ Ok (labels, next) → StandsAt bytes place labels
  led labels next read =
      let there = bind_ok (name_from bytes at place []) (λ name. Ok (name.0, at + 2)) (labels, next) (sym name_to ∙ read) in
      let found : ◌≡◌ {A = List (List ℕ) × ℕ} (there.0.0, at + 2) (labels, next) = ok_is (there.0.0, at + 2) (labels, next) there.2 in
      subst (λ (y : List (List ℕ) × ℕ). StandsAt bytes place y.0) found (there.0.1, name_whole bytes place ∙ names_from bytes at place (place + 1) place [] there.0 there.1)

-- a name stands where its labels begin
pub stands : (bytes : List ℕ) (at place : ℕ) (labels : List (List ℕ)) (next : ℕ) → (place ≢ at → PointsTo bytes at place) → name_of bytes at ≡ Ok (labels, next) → StandsAt bytes place labels
stands bytes at place labels next to read = by_test (eqb place at) refl where
  by_test : (t : Bool) → eqb place at ≡ t → StandsAt bytes place labels
  by_test true e = let same : place ≡ at = grind (arith, nat_tests) in rw same (next, read)
  by_test false e = led bytes at place (to (grind (arith, nat_tests))) labels next read

-- the last of a list with one more
pub last_pushed : {A : Type 0} (front : List A) (x : A) → slice_get (front ++ x ∷ []) (length (front ++ x ∷ []) - 1) ≡ Some x
last_pushed {A = A} front x = let len : length (front ++ x ∷ []) - 1 ≡ length front = omega (arith, length-append front (x ∷ [])) in rw len (at_end front) where
  at_end : (xs : List A) → slice_get (xs ++ x ∷ []) (length xs) ≡ Some x
  at_end [] = refl
  at_end (y ∷ ys) = at_end ys

first_is : {A : Type 0} (x y : A) (xs ys : List A) → x ∷ xs ≡ y ∷ ys → x ≡ y
first_is x y xs ys e = cc

-- the name of the one question
pub only_question : (bytes : List ℕ) (count next : ℕ) (question : Question) → items_of (question_of bytes) count 12 ≡ Ok (question ∷ [], next) → StandsAt bytes 12 question.name
unfolding question_of
only_question bytes zero next question e = absurd (let none : 0 ≡ 1 = ap (λ (y : List Question × ℕ). length y.0) (ok_is ([], 12) (question ∷ [], next) e) in cc)
only_question bytes (suc n) next question e =
    let a = bind_ok (question_of bytes 12) (λ first. items_of (question_of bytes) n first.1 >>= λ others. Ok (first.0 ∷ others.0, others.1)) (question ∷ [], next) e in
    let b = bind_ok (items_of (question_of bytes) n a.0.1) (λ others. Ok (a.0.0 ∷ others.0, others.1)) (question ∷ [], next) a.2 in
    let same : ◌≡◌ {A = List Question × ℕ} (a.0.0 ∷ b.0.0, b.0.1) (question ∷ [], next) = ok_is (a.0.0 ∷ b.0.0, b.0.1) (question ∷ [], next) b.2 in
    let first = first_is a.0.0 question b.0.0 [] (ap (λ (y : List Question × ℕ). y.0) same) in
    let name = bind_ok (name_of bytes 12) (λ name. part_of bytes name.1 4 >>= λ part. Ok (question_in bytes name.0 part, name.1 + 4)) a.0 a.1 in
    let part = bind_ok (part_of bytes name.0.1 4) (λ part. Ok (question_in bytes name.0.0 part, name.0.1 + 4)) a.0 name.2 in
    let made : ◌≡◌ {A = Question × ℕ} (question_in bytes name.0.0 part.0, name.0.1 + 4) a.0 = ok_is (question_in bytes name.0.0 part.0, name.0.1 + 4) a.0 part.2 in
    let is : name.0.0 ≡ question.name = ap (λ (y : Question × ℕ). y.0.name) made ∙ ap (λ (q : Question). q.name) first in
    subst (λ (labels : List (List ℕ)). StandsAt bytes 12 labels) is (name.0.1, name.1)

-- a list of one
pub only_one : {A : Type 0} (all : List A) (x : A) → 1 ≤ length all → length all < 2 → x ≡ get_or all 0 x → all ≡ x ∷ []
only_one [] x some few e = absurd (omega (arith, some))
only_one (y ∷ []) x some few e = ap (λ z. z ∷ []) (sym e)
only_one (y ∷ z ∷ more) x some few e = absurd (omega (arith, few))
