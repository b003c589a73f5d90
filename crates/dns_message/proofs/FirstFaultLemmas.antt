-- Messages: reading ends at the first fault.
use Rattle.std.proofs.Common.{◌≡◌, ◌≢◌, ℕ, zero, suc, ◌+◌, ◌-◌, ◌<◌, ◌≤◌, Bool, true, false, cond, ltb, List, [], ◌∷◌, length, Result, Ok, Err, ◌↔◌, inl, inr, refl, sym, ap, subst, ◌∙◌, arith}
use Rattle.std.specs.Prelude.{slice_range, IfErr}
use Rattle.std.proofs.lemmas.Bool.{ltb-true, ltb-false, lt-ltb, le-ltb}
use Rattle.byteorder.specs.Endian.{big_from}
use Rattle.dns_message.specs.declared.message.Question.{Question}
use Rattle.dns_message.specs.declared.message.Record.{Record}
use Rattle.dns_message.specs.declared.message.Message.{Message}
use Rattle.dns_message.specs.declared.shape.Shape.{Shape}
use Rattle.dns_message.specs.declared.fault.MessageFault.{MessageFault}
use Rattle.dns_message.specs.declared.fault.MessageFault.TheVariants.{ShortHeader, BadRdata, TrailingBytes, NoMemory}
use Rattle.dns_message.specs.Shapes.{shape_by}
use Rattle.dns_message.specs.Reading.{◌>>=◌, Gives, name_of, part_of, question_of, items_of, rdata_of, record_of, message_read}
use Rattle.dns_message.specs.Grammar.{SpellsNothing, SpellsName, SpellsAll, SpellsQuestion, SpellsRdata, SpellsRecord}
use Rattle.dns_message.specs.MessageFaults.{QuestionFails, in_question_name, in_question_fixed, RecordFails, in_record_name, in_record_fixed, in_rdata, bad_shape, SomeFails, SpellsSection, HasQuestions, HasAnswers, HasAuthorities, HasAdditionals, FirstFault, in_header, in_questions, in_answers, in_authorities, in_additionals, behind_all}
use Rattle.dns_message.proofs.PartLemmas.{number_in}
use Rattle.dns_message.proofs.StepLemmas.{bind_first, bind_stops, bind_err, never_err, guard_err, part_ok, part_is, part_cut, part_err}
use Rattle.dns_message.proofs.RunGrammarLemmas.{name_is_read, name_is_spelled}
use Rattle.dns_message.proofs.RdataGrammarLemmas.{rdata_bad, rdata_unshaped, unshaped_is_bad}
use Rattle.dns_message.proofs.GrammarLemmas.{question_in, question_is_spelled, question_is_read, record_in, record_is_spelled, record_is_read, items_are_spelled, items_are_read, message_is_spelled, fault_spells_nothing}
use Rattle.dns_message.proofs.NameFaultLemmas.{name_fault_found, name_fault_is_read}

-- ---- questions

question_fault_found : (bytes : List ℕ) (p : ℕ) (fault : MessageFault) → question_of bytes p ≡ Err fault → QuestionFails bytes p fault
unfolding question_of
question_fault_found bytes p fault e = elim (bind_err (name_of bytes p) (λ name. part_of bytes name.1 4 >>= λ part. Ok (question_in bytes name.0 part, name.1 + 4)) fault e) [
  | inl name ↦ in_question_name fault (name_fault_found bytes p fault name)
  | inr a ↦ elim (bind_err (part_of bytes a.0.1 4) (λ part. Ok (question_in bytes a.0.0 part, a.0.1 + 4)) fault a.2) [
    | inl part ↦ let cut = part_err bytes a.0.1 4 fault part in
        subst (λ (d : MessageFault). QuestionFails bytes p d) cut.1 (in_question_fixed a.0.0 a.0.1 (name_is_spelled bytes p a.0.0 a.0.1 a.1) (omega (arith, cut.0)))
    | inr end ↦ never_err (question_in bytes a.0.0 end.0, a.0.1 + 4) fault end.2
  ]
]

question_fault_is_read : (bytes : List ℕ) (p : ℕ) (fault : MessageFault) → QuestionFails bytes p fault → question_of bytes p ≡ Err fault
unfolding question_of
question_fault_is_read bytes p fault (in_question_name _ fails) = bind_stops (name_of bytes p) _ fault (name_fault_is_read bytes p fault fails)
question_fault_is_read bytes p _ (in_question_fixed labels fixed name short) = rw (name_is_read bytes p labels fixed name, part_cut bytes fixed 4 (omega arith)) refl

-- ---- records

-- the record of these labels and of the 10 bytes that are read behind them
abbrev with_fixed : List ℕ → List (List ℕ) → ℕ → List ℕ → Result (Record × ℕ) MessageFault
with_fixed bytes labels at part = part_of bytes (at + 10) (big_from 8 2 part) >>= λ whole.
    rdata_of bytes (at + 10) (big_from 8 2 part) (shape_by (big_from 0 2 part) (big_from 2 2 part)) >>= λ rdata. Ok (record_in labels part rdata, at + 10 + big_from 8 2 part)

abbrev with_name : List ℕ → List (List ℕ) × ℕ → Result (Record × ℕ) MessageFault
with_name bytes name = part_of bytes name.1 10 >>= with_fixed bytes name.0 name.1

behind_fixed : (bytes : List ℕ) (p : ℕ) (fault : MessageFault) (labels : List (List ℕ)) (at : ℕ) (part : List ℕ) → SpellsName bytes p labels at → (10 ≤ length bytes - at) × (slice_range bytes at (at + 10) ≡ part) → with_fixed bytes labels at part ≡ Err fault → RecordFails bytes p fault
behind_fixed bytes p fault labels at part name fixed e =
    let len = big_from 8 2 part in
    let kind : big_from 0 2 part ≡ big_from at 2 bytes = ap (big_from 0 2) (sym fixed.1) ∙ number_in 0 2 at 10 at bytes (omega arith) (omega arith) in
    let class : big_from 2 2 part ≡ big_from (at + 2) 2 bytes = ap (big_from 2 2) (sym fixed.1) ∙ number_in 2 2 at 10 (at + 2) bytes (omega arith) (omega arith) in
    let many : len ≡ big_from (at + 8) 2 bytes = ap (big_from 8 2) (sym fixed.1) ∙ number_in 8 2 at 10 (at + 8) bytes (omega arith) (omega arith) in
    let shape = shape_by (big_from 0 2 part) (big_from 2 2 part) in
    let shape_is : shape ≡ shape_by (big_from at 2 bytes) (big_from (at + 2) 2 bytes) = ap (λ (k : ℕ). shape_by k (big_from 2 2 part)) kind ∙ ap (λ (k : ℕ). shape_by (big_from at 2 bytes) k) class in
    let last : List ℕ → Result (Record × ℕ) MessageFault = λ rdata. Ok (record_in labels part rdata, at + 10 + len) in
    elim (bind_err (part_of bytes (at + 10) len) (λ whole. rdata_of bytes (at + 10) len shape >>= last) fault e) [
      | inl short ↦ let cut = part_err bytes (at + 10) len fault short in
          subst (λ (d : MessageFault). RecordFails bytes p d) cut.1 (in_rdata labels at name (omega (arith, fixed.0)) (omega (arith, cut.0, fixed.0, many)))
      | inr c ↦ elim (bind_err (rdata_of bytes (at + 10) len shape) last fault c.2) [
        | inl bad ↦ let found : BadRdata (at + 10) ≡ fault = rdata_bad bytes (at + 10) len shape fault bad in
            let whole = part_ok bytes (at + 10) len c.0 c.1 in
            let read : rdata_of bytes (at + 10) len shape ≡ Err (BadRdata (at + 10)) = bad ∙ ap (λ (d : MessageFault). Err d) (sym found) in
            let none = subst (λ (k : ℕ). (rdata : List ℕ) → ¬ SpellsRdata bytes (at + 10) (at + 10 + k) (shape_by (big_from at 2 bytes) (big_from (at + 2) 2 bytes)) rdata) many
            (subst (λ (s : Shape). (rdata : List ℕ) → ¬ SpellsRdata bytes (at + 10) (at + 10 + len) s rdata) shape_is (rdata_unshaped bytes (at + 10) len shape read)) in
            subst (λ (d : MessageFault). RecordFails bytes p d) found (bad_shape labels at name (omega (arith, whole.0, fixed.0, many)) none)
        | inr end ↦ never_err (record_in labels part end.0, at + 10 + len) fault end.2
      ]
    ]

record_fault_found : (bytes : List ℕ) (p : ℕ) (fault : MessageFault) → record_of bytes p ≡ Err fault → RecordFails bytes p fault
unfolding record_of
record_fault_found bytes p fault e = elim (bind_err (name_of bytes p) (with_name bytes) fault e) [
  | inl name ↦ in_record_name fault (name_fault_found bytes p fault name)
  | inr a ↦ let name = name_is_spelled bytes p a.0.0 a.0.1 a.1 in
      elim (bind_err (part_of bytes a.0.1 10) (with_fixed bytes a.0.0 a.0.1) fault a.2) [
        | inl part ↦ let cut = part_err bytes a.0.1 10 fault part in
            subst (λ (d : MessageFault). RecordFails bytes p d) cut.1 (in_record_fixed a.0.0 a.0.1 name (omega (arith, cut.0)))
        | inr b ↦ behind_fixed bytes p fault a.0.0 a.0.1 b.0 name (part_ok bytes a.0.1 10 b.0 b.1) b.2
      ]
]

-- the numbers of a record, in the part behind its name
record FixedPart (bytes : List ℕ) (at : ℕ) : Type 0 where
  pub there : part_of bytes at 10 ≡ Ok (slice_range bytes at (at + 10))
  pub kind : big_from 0 2 (slice_range bytes at (at + 10)) ≡ big_from at 2 bytes
  pub class : big_from 2 2 (slice_range bytes at (at + 10)) ≡ big_from (at + 2) 2 bytes
  pub len : big_from 8 2 (slice_range bytes at (at + 10)) ≡ big_from (at + 8) 2 bytes

fixed_part : (bytes : List ℕ) (at : ℕ) → at + 10 ≤ length bytes → FixedPart bytes at
fixed_part bytes at whole = record {
  there = part_is bytes at 10 (omega arith);
  kind = number_in 0 2 at 10 at bytes (omega arith) (omega arith);
  class = number_in 2 2 at 10 (at + 2) bytes (omega arith) (omega arith);
  len = number_in 8 2 at 10 (at + 8) bytes (omega arith) (omega arith);
}

record_fault_is_read : (bytes : List ℕ) (p : ℕ) (fault : MessageFault) → RecordFails bytes p fault → record_of bytes p ≡ Err fault
unfolding record_of
record_fault_is_read bytes p fault (in_record_name _ fails) = bind_stops (name_of bytes p) _ fault (name_fault_is_read bytes p fault fails)
record_fault_is_read bytes p _ (in_record_fixed labels at name short) = rw (name_is_read bytes p labels at name, part_cut bytes at 10 (omega arith)) refl
record_fault_is_read bytes p _ (in_rdata labels at name whole short) =
    let fixed = fixed_part bytes at whole in
    let cut = part_cut bytes (at + 10) (big_from 8 2 (slice_range bytes at (at + 10))) (omega (arith, fixed.len)) in
    rw (name_is_read bytes p labels at name, fixed.there, cut) refl
record_fault_is_read bytes p _ (bad_shape labels at name whole none) =
    let fixed = fixed_part bytes at (omega arith) in
    let part = slice_range bytes at (at + 10) in
    let len = big_from 8 2 part in
    let shape = shape_by (big_from 0 2 part) (big_from 2 2 part) in
    let shape_is : shape ≡ shape_by (big_from at 2 bytes) (big_from (at + 2) 2 bytes) = ap (λ (k : ℕ). shape_by k (big_from 2 2 part)) fixed.kind ∙ ap (λ (k : ℕ). shape_by (big_from at 2 bytes) k) fixed.class in
    let there = part_is bytes (at + 10) len (omega (arith, fixed.len)) in
    let unshaped = subst (λ (k : ℕ). (rdata : List ℕ) → ¬ SpellsRdata bytes (at + 10) (at + 10 + k) shape rdata) (sym fixed.len)
    (subst (λ (s : Shape). (rdata : List ℕ) → ¬ SpellsRdata bytes (at + 10) (at + 10 + big_from (at + 8) 2 bytes) s rdata) (sym shape_is) none) in
    let bad : rdata_of bytes (at + 10) len shape ≡ Err (BadRdata (at + 10)) = unshaped_is_bad bytes (at + 10) len shape unshaped in
    rw (name_is_read bytes p labels at name, fixed.there, there, bad) refl

-- ---- lists of items

module _ {A : Type 0} (item : ℕ → Result (A × ℕ) MessageFault) (Item : ℕ → A → ℕ → Type 0) (Fails : ℕ → MessageFault → Type 0) where
  items_fault_found : ((p : ℕ) (x : A × ℕ) → item p ≡ Ok x → Item p x.0 x.1) → ((p : ℕ) (fault : MessageFault) → item p ≡ Err fault → Fails p fault)
      → (n p : ℕ) (fault : MessageFault) → items_of item n p ≡ Err fault → SomeFails Item Fails n p fault
  items_fault_found good bad zero p fault e = never_err ([], p) fault e
  items_fault_found good bad (suc n) p fault e = elim (bind_err (item p) (λ first. items_of item n first.1 >>= λ others. Ok (first.0 ∷ others.0, others.1)) fault e) [
    | inl first ↦ record { front = []; at = p; fewer = omega arith; spelled = refl; next = bad p fault first }
    | inr a ↦ elim (bind_err (items_of item n a.0.1) (λ others. Ok (a.0.0 ∷ others.0, others.1)) fault a.2) [
      | inl others ↦ let later = items_fault_found good bad n a.0.1 fault others in
          record { front = a.0.0 ∷ later.front; at = later.at; fewer = omega (arith, later.fewer); spelled = (a.0.1, good p a.0 a.1, later.spelled); next = later.next }
      | inr end ↦ never_err (a.0.0 ∷ end.0.0, end.0.1) fault end.2
    ]
  ]

  items_stop_at : ((p : ℕ) (x : A) (next : ℕ) → Item p x next → item p ≡ Ok (x, next)) → (n p : ℕ) (front : List A) (at : ℕ) (fault : MessageFault) → length front < n → SpellsAll Item p front at → item at ≡ Err fault → items_of item n p ≡ Err fault
  items_stop_at good zero p front at fault few spelled e = absurd (omega arith)
  items_stop_at good (suc n) p [] at fault few spelled e = bind_stops (item p) _ fault (ap item (sym spelled) ∙ e)
  items_stop_at good (suc n) p (x ∷ front) at fault few spelled e =
      let rest : items_of item n spelled.0 ≡ Err fault = items_stop_at good n spelled.0 front at fault (omega arith) spelled.2 e in
      rw (good p x spelled.0 spelled.1, rest) refl

  items_fault_is_read : ((p : ℕ) (x : A) (next : ℕ) → Item p x next → item p ≡ Ok (x, next)) → ((p : ℕ) (fault : MessageFault) → Fails p fault → item p ≡ Err fault) → (n p : ℕ) (fault : MessageFault) → SomeFails Item Fails n p fault → items_of item n p ≡ Err fault
  items_fault_is_read good bad n p fault fails = items_stop_at good n p fails.front fails.at fault fails.fewer fails.spelled (bad fails.at fault fails.next)

  section_is_read : ((p : ℕ) (x : A) (next : ℕ) → Item p x next → item p ≡ Ok (x, next)) → (n p next : ℕ) → (s : SpellsSection Item n p next) → items_of item n p ≡ Ok (s.items, next)
  section_is_read good n p next s = ap (λ (k : ℕ). items_of item k p) (sym s.many) ∙ items_are_read item Item good p s.items next s.spelled

-- ---- messages

module _ (bytes : List ℕ) where
  questions_fail : (n p : ℕ) (fault : MessageFault) → items_of (question_of bytes) n p ≡ Err fault → SomeFails (SpellsQuestion bytes) (QuestionFails bytes) n p fault
  questions_fail = items_fault_found (question_of bytes) (SpellsQuestion bytes) (QuestionFails bytes) (question_is_spelled bytes) (question_fault_found bytes)

  records_fail : (n p : ℕ) (fault : MessageFault) → items_of (record_of bytes) n p ≡ Err fault → SomeFails (SpellsRecord bytes) (RecordFails bytes) n p fault
  records_fail = items_fault_found (record_of bytes) (SpellsRecord bytes) (RecordFails bytes) (record_is_spelled bytes) (record_fault_found bytes)

  question_section : (n p : ℕ) (x : List Question × ℕ) → items_of (question_of bytes) n p ≡ Ok x → SpellsSection (SpellsQuestion bytes) n p x.1
  question_section n p x e = let all = items_are_spelled (question_of bytes) (SpellsQuestion bytes) (question_is_spelled bytes) n p x e in record { items = x.0; many = all.1; spelled = all.0 }

  record_section : (n p : ℕ) (x : List Record × ℕ) → items_of (record_of bytes) n p ≡ Ok x → SpellsSection (SpellsRecord bytes) n p x.1
  record_section n p x e = let all = items_are_spelled (record_of bytes) (SpellsRecord bytes) (record_is_spelled bytes) n p x e in record { items = x.0; many = all.1; spelled = all.0 }

  -- the message of the sections, if nothing follows them
  abbrev whole_message : List Question → List Record → List Record → List Record × ℕ → Result Message MessageFault
  whole_message questions answers authorities x = cond (ltb x.1 (length bytes)) (Err (TrailingBytes x.1)) (Ok (record { id = big_from 0 2 bytes; flags = big_from 2 2 bytes; questions = questions; answers = answers; authorities = authorities; additionals = x.0 }))

  abbrev with_authorities : List Question → List Record → List Record × ℕ → Result Message MessageFault
  with_authorities questions answers x = items_of (record_of bytes) (big_from 10 2 bytes) x.1 >>= whole_message questions answers x.0

  abbrev with_answers : List Question → List Record × ℕ → Result Message MessageFault
  with_answers questions x = items_of (record_of bytes) (big_from 8 2 bytes) x.1 >>= with_authorities questions x.0

  abbrev with_questions : List Question × ℕ → Result Message MessageFault
  with_questions x = items_of (record_of bytes) (big_from 6 2 bytes) x.1 >>= with_answers x.0

  message_in_parts : message_read bytes ≡ cond (ltb (length bytes) 12) (Err ShortHeader) (items_of (question_of bytes) (big_from 4 2 bytes) 12 >>= with_questions)
  unfolding message_read
  message_in_parts = refl

  end_found : (fault : MessageFault) (first : ℕ) → HasAuthorities bytes first → (questions : List Question) (answers authorities : List Record) → with_authorities questions answers (authorities, first) ≡ Err fault → FirstFault bytes fault
  end_found fault first before questions answers authorities e = elim (bind_err (items_of (record_of bytes) (big_from 10 2 bytes) first) (whole_message questions answers authorities) fault e) [
    | inl additionals ↦ in_additionals fault first before (records_fail (big_from 10 2 bytes) first fault additionals)
    | inr x ↦ elim (guard_err (ltb x.0.1 (length bytes)) (TrailingBytes x.0.1) (Ok (record { id = big_from 0 2 bytes; flags = big_from 2 2 bytes; questions = questions; answers = answers; authorities = authorities; additionals = x.0.0 })) fault x.2) [
      | inl more ↦ let has : HasAdditionals bytes x.0.1 = record { first = first; before = before; additionals = record_section (big_from 10 2 bytes) first x.0 x.1 } in
          subst (λ (d : MessageFault). FirstFault bytes d) more.1 (behind_all x.0.1 has (ltb-true x.0.1 (length bytes) more.0))
      | inr all ↦ never_err (record { id = big_from 0 2 bytes; flags = big_from 2 2 bytes; questions = questions; answers = answers; authorities = authorities; additionals = x.0.0 }) fault all.1
    ]
  ]

  authorities_found : (fault : MessageFault) (first : ℕ) → HasAnswers bytes first → (questions : List Question) (answers : List Record) → with_answers questions (answers, first) ≡ Err fault → FirstFault bytes fault
  authorities_found fault first before questions answers e = elim (bind_err (items_of (record_of bytes) (big_from 8 2 bytes) first) (with_authorities questions answers) fault e) [
    | inl authorities ↦ in_authorities fault first before (records_fail (big_from 8 2 bytes) first fault authorities)
    | inr x ↦ end_found fault x.0.1 (record { first = first; before = before; authorities = record_section (big_from 8 2 bytes) first x.0 x.1 }) questions answers x.0.0 x.2
  ]

  answers_found : (fault : MessageFault) (first : ℕ) → HasQuestions bytes first → (questions : List Question) → with_questions (questions, first) ≡ Err fault → FirstFault bytes fault
  answers_found fault first before questions e = elim (bind_err (items_of (record_of bytes) (big_from 6 2 bytes) first) (with_answers questions) fault e) [
    | inl answers ↦ in_answers fault first before (records_fail (big_from 6 2 bytes) first fault answers)
    | inr x ↦ authorities_found fault x.0.1 (record { first = first; before = before; answers = record_section (big_from 6 2 bytes) first x.0 x.1 }) questions x.0.0 x.2
  ]

  pub fault_found : (fault : MessageFault) → message_read bytes ≡ Err fault → FirstFault bytes fault
  fault_found fault e = elim (guard_err (ltb (length bytes) 12) ShortHeader (items_of (question_of bytes) (big_from 4 2 bytes) 12 >>= with_questions) fault (sym message_in_parts ∙ e)) [
    | inl short ↦ subst (λ (d : MessageFault). FirstFault bytes d) short.1 (in_header (ltb-true (length bytes) 12 short.0))
    | inr header ↦ let long : 12 ≤ length bytes = ltb-false (length bytes) 12 header.0 in
        elim (bind_err (items_of (question_of bytes) (big_from 4 2 bytes) 12) with_questions fault header.1) [
          | inl questions ↦ in_questions fault long (questions_fail (big_from 4 2 bytes) 12 fault questions)
          | inr x ↦ answers_found fault x.0.1 (record { header = long; questions = question_section (big_from 4 2 bytes) 12 x.0 x.1 }) x.0.0 x.2
        ]
  ]

  -- ---- and back

  questions_read : (first : ℕ) → (has : HasQuestions bytes first) → message_read bytes ≡ with_questions (has.questions.items, first)
  questions_read first has =
      let header : ltb (length bytes) 12 ≡ false = le-ltb (length bytes) 12 has.header in
      message_in_parts ∙ ap (λ (t : Bool). cond t (Err ShortHeader) (items_of (question_of bytes) (big_from 4 2 bytes) 12 >>= with_questions)) header
      ∙ bind_first (items_of (question_of bytes) (big_from 4 2 bytes) 12) with_questions (has.questions.items, first) (section_is_read (question_of bytes) (SpellsQuestion bytes) (QuestionFails bytes) (question_is_read bytes) (big_from 4 2 bytes) 12 first has.questions)

  section_read : (n p next : ℕ) → (s : SpellsSection (SpellsRecord bytes) n p next) → items_of (record_of bytes) n p ≡ Ok (s.items, next)
  section_read = section_is_read (record_of bytes) (SpellsRecord bytes) (RecordFails bytes) (record_is_read bytes)

  answers_read : (first : ℕ) → (has : HasAnswers bytes first) → message_read bytes ≡ with_answers has.before.questions.items (has.answers.items, first)
  answers_read first has = questions_read has.first has.before ∙ bind_first (items_of (record_of bytes) (big_from 6 2 bytes) has.first) (with_answers has.before.questions.items) (has.answers.items, first) (section_read (big_from 6 2 bytes) has.first first has.answers)

  authorities_read : (first : ℕ) → (has : HasAuthorities bytes first) → message_read bytes ≡ with_authorities has.before.before.questions.items has.before.answers.items (has.authorities.items, first)
  authorities_read first has = answers_read has.first has.before ∙ bind_first (items_of (record_of bytes) (big_from 8 2 bytes) has.first) (with_authorities has.before.before.questions.items has.before.answers.items) (has.authorities.items, first) (section_read (big_from 8 2 bytes) has.first first has.authorities)

  records_stop : (n p : ℕ) (fault : MessageFault) → SomeFails (SpellsRecord bytes) (RecordFails bytes) n p fault → items_of (record_of bytes) n p ≡ Err fault
  records_stop = items_fault_is_read (record_of bytes) (SpellsRecord bytes) (RecordFails bytes) (record_is_read bytes) (record_fault_is_read bytes)

  pub fault_is_read : (fault : MessageFault) → FirstFault bytes fault → message_read bytes ≡ Err fault
  fault_is_read _ (in_header short) =
      let header : ltb (length bytes) 12 ≡ true = lt-ltb (length bytes) 12 short in
      message_in_parts ∙ ap (λ (t : Bool). cond t (Err ShortHeader) (items_of (question_of bytes) (big_from 4 2 bytes) 12 >>= with_questions)) header
  fault_is_read fault (in_questions _ long fails) =
      let header : ltb (length bytes) 12 ≡ false = le-ltb (length bytes) 12 long in
      message_in_parts ∙ ap (λ (t : Bool). cond t (Err ShortHeader) (items_of (question_of bytes) (big_from 4 2 bytes) 12 >>= with_questions)) header
      ∙ bind_stops (items_of (question_of bytes) (big_from 4 2 bytes) 12) with_questions fault (items_fault_is_read (question_of bytes) (SpellsQuestion bytes) (QuestionFails bytes) (question_is_read bytes) (question_fault_is_read bytes) (big_from 4 2 bytes) 12 fault fails)
  fault_is_read fault (in_answers _ p has fails) =
      questions_read p has ∙ bind_stops (items_of (record_of bytes) (big_from 6 2 bytes) p) (with_answers has.questions.items) fault (records_stop (big_from 6 2 bytes) p fault fails)
  fault_is_read fault (in_authorities _ p has fails) =
      answers_read p has ∙ bind_stops (items_of (record_of bytes) (big_from 8 2 bytes) p) (with_authorities has.before.questions.items has.answers.items) fault (records_stop (big_from 8 2 bytes) p fault fails)
  fault_is_read fault (in_additionals _ p has fails) =
      authorities_read p has ∙ bind_stops (items_of (record_of bytes) (big_from 10 2 bytes) p) (whole_message has.before.before.questions.items has.before.answers.items has.authorities.items) fault (records_stop (big_from 10 2 bytes) p fault fails)
  fault_is_read _ (behind_all p has more) =
      let test : ltb p (length bytes) ≡ true = lt-ltb p (length bytes) more in
      authorities_read has.first has.before
      ∙ bind_first (items_of (record_of bytes) (big_from 10 2 bytes) has.first) (whole_message has.before.before.before.questions.items has.before.before.answers.items has.before.authorities.items) (has.additionals.items, p) (section_read (big_from 10 2 bytes) has.first p has.additionals)
      ∙ rw test refl

pub reading_ends : (bytes : List ℕ) (fault : MessageFault) → (message_read bytes ≡ Err fault) ↔ FirstFault bytes fault
reading_ends bytes fault = (fault_found bytes fault, fault_is_read bytes fault)

-- bytes that spell no message have a first fault, and only they
pub nothing_is_a_fault : (bytes : List ℕ) → SpellsNothing bytes ↔ ((fault : MessageFault) × FirstFault bytes fault)
nothing_is_a_fault bytes = (λ none. by_read none (message_read bytes) refl, λ found. fault_spells_nothing bytes found.0 (fault_is_read bytes found.0 found.1)) where
  by_read : SpellsNothing bytes → (r : Result Message MessageFault) → message_read bytes ≡ r → (fault : MessageFault) × FirstFault bytes fault
  by_read none (Ok m) e = absurd (none m (message_is_spelled bytes m e))
  by_read none (Err fault) e = (fault, fault_found bytes fault e)

-- the fault that reading gave is the first
pub given_is_first : (bytes : List ℕ) (r : Result Message MessageFault) → Gives r (message_read bytes) → IfErr r (λ fault. fault ≢ NoMemory → FirstFault bytes fault)
given_is_first bytes (Ok m) given = tt
given_is_first bytes (Err fault) given = λ other. fault_found bytes fault (given other)
