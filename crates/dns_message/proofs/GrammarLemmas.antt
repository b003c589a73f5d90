-- Messages: what reading gives is what the grammar says.
use Rattle.std.proofs.Common.{◌≡◌, ◌≢◌, ℕ, zero, suc, ◌+◌, ◌≤◌, false, ltb, List, [], ◌∷◌, length, Some, Result, Ok, Err, ◌↔◌, refl, sym, ap, subst, ◌∙◌, arith}
use Rattle.std.specs.Prelude.{slice_range, IfOk, IfErr}
use Rattle.std.specs.Result.{result_ok}
use Rattle.std.proofs.lemmas.Bool.{ltb-false, le-ltb}
use Rattle.byteorder.specs.Endian.{big_from}
use Rattle.dns_message.specs.declared.message.Question.{Question}
use Rattle.dns_message.specs.declared.message.Record.{Record}
use Rattle.dns_message.specs.declared.message.Message.{Message}
use Rattle.dns_message.specs.declared.fault.MessageFault.{MessageFault}
use Rattle.dns_message.specs.declared.fault.MessageFault.TheVariants.{ShortHeader, TrailingBytes, NoMemory}
use Rattle.dns_message.specs.Shapes.{shape_by}
use Rattle.dns_message.specs.Reading.{◌>>=◌, Gives, name_of, part_of, question_of, items_of, rdata_of, record_of, message_read}
use Rattle.dns_message.specs.Grammar.{SpellsAll, SpellsQuestion, SpellsRdata, SpellsRecord, Spells, SpellsNothing, message_of}
use Rattle.dns_message.proofs.PartLemmas.{number_in}
use Rattle.dns_message.proofs.StepLemmas.{bind_ok, guard_ok, never, ok_is, part_ok, part_is}
use Rattle.dns_message.proofs.RunGrammarLemmas.{name_is_read, name_is_spelled}
use Rattle.dns_message.proofs.RdataGrammarLemmas.{rdata_is_read, rdata_is_spelled}

-- ---- questions

abbrev pub question_in : List ℕ → List (List ℕ) → List ℕ → Question
question_in bytes labels part = record { name = labels; kind = big_from 0 2 part; class = big_from 2 2 part }

pub question_is_spelled : (bytes : List ℕ) (p : ℕ) (x : Question × ℕ) → question_of bytes p ≡ Ok x → SpellsQuestion bytes p x.0 x.1
unfolding question_of
question_is_spelled bytes p x e =
    let a = bind_ok (name_of bytes p) (λ name. part_of bytes name.1 4 >>= λ part. Ok (question_in bytes name.0 part, name.1 + 4)) x e in
    let b = bind_ok (part_of bytes a.0.1 4) (λ part. Ok (question_in bytes a.0.0 part, a.0.1 + 4)) x a.2 in
    let part = part_ok bytes a.0.1 4 b.0 b.1 in
    let made : Question × ℕ = (question_in bytes a.0.0 b.0, a.0.1 + 4) in
    subst (λ (y : Question × ℕ). SpellsQuestion bytes p y.0 y.1) (ok_is made x b.2) (record {
      fixed = a.0.1;
      name = name_is_spelled bytes p a.0.0 a.0.1 a.1;
      kind = ap (big_from 0 2) (sym part.1) ∙ number_in 0 2 a.0.1 4 a.0.1 bytes (omega arith) (omega arith);
      class = ap (big_from 2 2) (sym part.1) ∙ number_in 2 2 a.0.1 4 (a.0.1 + 2) bytes (omega arith) (omega arith);
      end = refl;
      whole = omega (arith, part.0);
    })

question_same : (q : Question) (kind class : ℕ) → q.kind ≡ kind → q.class ≡ class → ◌≡◌ {A = Question} (record { name = q.name; kind = kind; class = class }) q
question_same q kind class a b =
    subst (λ (k : ℕ). ◌≡◌ {A = Question} (record { name = q.name; kind = k; class = class }) q) a
    (subst (λ (k : ℕ). ◌≡◌ {A = Question} (record { name = q.name; kind = q.kind; class = k }) q) b refl)

pub question_is_read : (bytes : List ℕ) (p : ℕ) (q : Question) (next : ℕ) → SpellsQuestion bytes p q next → question_of bytes p ≡ Ok (q, next)
unfolding question_of
question_is_read bytes p q next s =
    let part = slice_range bytes s.fixed (s.fixed + 4) in
    let there : part_of bytes s.fixed 4 ≡ Ok part = part_is bytes s.fixed 4 (omega (arith, s.whole, s.end)) in
    let same : question_in bytes q.name part ≡ q = question_same q (big_from 0 2 part) (big_from 2 2 part)
    (s.kind ∙ sym (number_in 0 2 s.fixed 4 s.fixed bytes (omega arith) (omega arith)))
    (s.class ∙ sym (number_in 2 2 s.fixed 4 (s.fixed + 2) bytes (omega arith) (omega arith))) in
    rw (name_is_read bytes p q.name s.fixed s.name, there) (ap (λ (y : Question). Ok (y, s.fixed + 4)) same ∙ ap (λ (k : ℕ). Ok (q, k)) (sym s.end))

-- ---- records

abbrev pub record_in : List (List ℕ) → List ℕ → List ℕ → Record
record_in labels part rdata = record { name = labels; kind = big_from 0 2 part; class = big_from 2 2 part; ttl = big_from 4 4 part; rdata = rdata }

pub record_is_spelled : (bytes : List ℕ) (p : ℕ) (x : Record × ℕ) → record_of bytes p ≡ Ok x → SpellsRecord bytes p x.0 x.1
unfolding record_of
record_is_spelled bytes p x e =
    let a = bind_ok (name_of bytes p) (λ name. part_of bytes name.1 10 >>= λ part. part_of bytes (name.1 + 10) (big_from 8 2 part) >>= λ whole.
    rdata_of bytes (name.1 + 10) (big_from 8 2 part) (shape_by (big_from 0 2 part) (big_from 2 2 part)) >>= λ rdata. Ok (record_in name.0 part rdata, name.1 + 10 + big_from 8 2 part)) x e in
    let at = a.0.1 in
    let b = bind_ok (part_of bytes at 10) (λ part. part_of bytes (at + 10) (big_from 8 2 part) >>= λ whole.
    rdata_of bytes (at + 10) (big_from 8 2 part) (shape_by (big_from 0 2 part) (big_from 2 2 part)) >>= λ rdata. Ok (record_in a.0.0 part rdata, at + 10 + big_from 8 2 part)) x a.2 in
    let part = b.0 in
    let len = big_from 8 2 part in
    let c = bind_ok (part_of bytes (at + 10) len) (λ whole. rdata_of bytes (at + 10) len (shape_by (big_from 0 2 part) (big_from 2 2 part)) >>= λ rdata. Ok (record_in a.0.0 part rdata, at + 10 + len)) x b.2 in
    let d = bind_ok (rdata_of bytes (at + 10) len (shape_by (big_from 0 2 part) (big_from 2 2 part))) (λ rdata. Ok (record_in a.0.0 part rdata, at + 10 + len)) x c.2 in
    let fixed = part_ok bytes at 10 part b.1 in
    let whole = part_ok bytes (at + 10) len c.0 c.1 in
    let made : Record × ℕ = (record_in a.0.0 part d.0, at + 10 + len) in
    subst (λ (y : Record × ℕ). SpellsRecord bytes p y.0 y.1) (ok_is made x d.2) (record {
      fixed = at;
      name = name_is_spelled bytes p a.0.0 at a.1;
      kind = ap (big_from 0 2) (sym fixed.1) ∙ number_in 0 2 at 10 at bytes (omega arith) (omega arith);
      class = ap (big_from 2 2) (sym fixed.1) ∙ number_in 2 2 at 10 (at + 2) bytes (omega arith) (omega arith);
      ttl = ap (big_from 4 4) (sym fixed.1) ∙ number_in 4 4 at 10 (at + 4) bytes (omega arith) (omega arith);
      end = ap (λ (k : ℕ). at + 10 + k) (ap (big_from 8 2) (sym fixed.1) ∙ number_in 8 2 at 10 (at + 8) bytes (omega arith) (omega arith));
      whole = omega (arith, fixed.0, whole.0);
      rdata = rdata_is_spelled bytes (at + 10) len (shape_by (big_from 0 2 part) (big_from 2 2 part)) d.0 d.1;
    })

record_same : (rr : Record) (kind class ttl : ℕ) → rr.kind ≡ kind → rr.class ≡ class → rr.ttl ≡ ttl → ◌≡◌ {A = Record} (record { name = rr.name; kind = kind; class = class; ttl = ttl; rdata = rr.rdata }) rr
record_same rr kind class ttl a b c =
    subst (λ (k : ℕ). ◌≡◌ {A = Record} (record { name = rr.name; kind = k; class = class; ttl = ttl; rdata = rr.rdata }) rr) a
    (subst (λ (k : ℕ). ◌≡◌ {A = Record} (record { name = rr.name; kind = rr.kind; class = k; ttl = ttl; rdata = rr.rdata }) rr) b
    (subst (λ (k : ℕ). ◌≡◌ {A = Record} (record { name = rr.name; kind = rr.kind; class = rr.class; ttl = k; rdata = rr.rdata }) rr) c refl))

pub record_is_read : (bytes : List ℕ) (p : ℕ) (rr : Record) (next : ℕ) → SpellsRecord bytes p rr next → record_of bytes p ≡ Ok (rr, next)
unfolding record_of
record_is_read bytes p rr next s =
    let at = s.fixed in
    let part = slice_range bytes at (at + 10) in
    let kind : rr.kind ≡ big_from 0 2 part = s.kind ∙ sym (number_in 0 2 at 10 at bytes (omega arith) (omega arith)) in
    let class : rr.class ≡ big_from 2 2 part = s.class ∙ sym (number_in 2 2 at 10 (at + 2) bytes (omega arith) (omega arith)) in
    let ttl : rr.ttl ≡ big_from 4 4 part = s.ttl ∙ sym (number_in 4 4 at 10 (at + 4) bytes (omega arith) (omega arith)) in
    let len : big_from 8 2 part ≡ big_from (at + 8) 2 bytes = number_in 8 2 at 10 (at + 8) bytes (omega arith) (omega arith) in
    let end : next ≡ at + 10 + big_from 8 2 part = s.end ∙ ap (λ (k : ℕ). at + 10 + k) (sym len) in
    let fixed : part_of bytes at 10 ≡ Ok part = part_is bytes at 10 (omega (arith, s.whole, end)) in
    let whole : part_of bytes (at + 10) (big_from 8 2 part) ≡ Ok (slice_range bytes (at + 10) (at + 10 + big_from 8 2 part)) = part_is bytes (at + 10) (big_from 8 2 part) (omega (arith, s.whole, end)) in
    let shaped = subst (λ (k : ℕ). SpellsRdata bytes (at + 10) next (shape_by k rr.class) rr.rdata) kind s.rdata in
    let shaped = subst (λ (k : ℕ). SpellsRdata bytes (at + 10) next (shape_by (big_from 0 2 part) k) rr.rdata) class shaped in
    let shaped = subst (λ (k : ℕ). SpellsRdata bytes (at + 10) k (shape_by (big_from 0 2 part) (big_from 2 2 part)) rr.rdata) end shaped in
    let rdata : rdata_of bytes (at + 10) (big_from 8 2 part) (shape_by (big_from 0 2 part) (big_from 2 2 part)) ≡ Ok rr.rdata = rdata_is_read bytes (at + 10) (big_from 8 2 part) (shape_by (big_from 0 2 part) (big_from 2 2 part)) rr.rdata shaped in
    rw (name_is_read bytes p rr.name at s.name, fixed, whole, rdata) (ap (λ (y : Record). Ok (y, at + 10 + big_from 8 2 part)) (record_same rr (big_from 0 2 part) (big_from 2 2 part) (big_from 4 4 part) kind class ttl) ∙ ap (λ (k : ℕ). Ok (rr, k)) (sym end))

-- ---- lists of items

module _ {A : Type 0} (item : ℕ → Result (A × ℕ) MessageFault) (Item : ℕ → A → ℕ → Type 0) where
  pub items_are_spelled : ((p : ℕ) (x : A × ℕ) → item p ≡ Ok x → Item p x.0 x.1) → (n p : ℕ) (x : List A × ℕ) → items_of item n p ≡ Ok x → SpellsAll Item p x.0 x.1 × (length x.0 ≡ n)
  items_are_spelled one zero p x e = subst (λ (y : List A × ℕ). SpellsAll Item p y.0 y.1 × (length y.0 ≡ 0)) (ok_is ([], p) x e) (refl, refl)
  items_are_spelled one (suc n) p x e =
      let a = bind_ok (item p) (λ first. items_of item n first.1 >>= λ others. Ok (first.0 ∷ others.0, others.1)) x e in
      let b = bind_ok (items_of item n a.0.1) (λ others. Ok (a.0.0 ∷ others.0, others.1)) x a.2 in
      let others = items_are_spelled one n a.0.1 b.0 b.1 in
      let made : List A × ℕ = (a.0.0 ∷ b.0.0, b.0.1) in
      subst (λ (y : List A × ℕ). SpellsAll Item p y.0 y.1 × (length y.0 ≡ suc n)) (ok_is made x b.2) ((a.0.1, one p a.0 a.1, others.0), ap suc others.1)

  pub items_are_read : ((p : ℕ) (x : A) (next : ℕ) → Item p x next → item p ≡ Ok (x, next)) → (p : ℕ) (xs : List A) (next : ℕ) → SpellsAll Item p xs next → items_of item (length xs) p ≡ Ok (xs, next)
  items_are_read one p [] next s = ap (λ (k : ℕ). Ok ([], k)) (sym s)
  items_are_read one p (x ∷ xs) next s = rw (one p x s.0 s.1, items_are_read one s.0 xs next s.2) refl

  items_within : (len : ℕ) → ((p : ℕ) (x : A) (next : ℕ) → Item p x next → next ≤ len) → (p : ℕ) (xs : List A) (next : ℕ) → p ≤ len → SpellsAll Item p xs next → next ≤ len
  items_within len one p [] next lt s = omega (arith, s)
  items_within len one p (x ∷ xs) next lt s = items_within len one s.0 xs next (one p x s.0 s.1) s.2

-- ---- messages

message_same : (m : Message) (id flags : ℕ) → m.id ≡ id → m.flags ≡ flags
    → ◌≡◌ {A = Message} (record { id = id; flags = flags; questions = m.questions; answers = m.answers; authorities = m.authorities; additionals = m.additionals }) m
message_same m id flags a b =
    subst (λ (k : ℕ). ◌≡◌ {A = Message} (record { id = k; flags = flags; questions = m.questions; answers = m.answers; authorities = m.authorities; additionals = m.additionals }) m) a
    (subst (λ (k : ℕ). ◌≡◌ {A = Message} (record { id = m.id; flags = k; questions = m.questions; answers = m.answers; authorities = m.authorities; additionals = m.additionals }) m) b refl)

pub message_is_read : (bytes : List ℕ) (m : Message) → Spells bytes m → message_read bytes ≡ Ok m
unfolding message_read
message_is_read bytes m s =
    let header : ltb (length bytes) 12 ≡ false = le-ltb (length bytes) 12 s.header in
    let nothing : ltb (length bytes) (length bytes) ≡ false = le-ltb (length bytes) (length bytes) (omega arith) in
    let questions = ap (λ (n : ℕ). items_of (question_of bytes) n 12) (sym s.question_count) ∙ items_are_read (question_of bytes) (SpellsQuestion bytes) (question_is_read bytes) 12 m.questions s.first_answer s.questions in
    let answers = ap (λ (n : ℕ). items_of (record_of bytes) n s.first_answer) (sym s.answer_count) ∙ items_are_read (record_of bytes) (SpellsRecord bytes) (record_is_read bytes) s.first_answer m.answers s.first_authority s.answers in
    let authorities = ap (λ (n : ℕ). items_of (record_of bytes) n s.first_authority) (sym s.authority_count) ∙ items_are_read (record_of bytes) (SpellsRecord bytes) (record_is_read bytes) s.first_authority m.authorities s.first_additional s.authorities in
    let additionals = ap (λ (n : ℕ). items_of (record_of bytes) n s.first_additional) (sym s.additional_count) ∙ items_are_read (record_of bytes) (SpellsRecord bytes) (record_is_read bytes) s.first_additional m.additionals (length bytes) s.additionals in
    rw (header, questions, answers, authorities, additionals, nothing) (ap (λ (y : Message). Ok y) (message_same m (big_from 0 2 bytes) (big_from 2 2 bytes) s.id s.flags))

pub message_is_spelled : (bytes : List ℕ) (m : Message) → message_read bytes ≡ Ok m → Spells bytes m
unfolding message_read
message_is_spelled bytes m e =
    let header = guard_ok (ltb (length bytes) 12) ShortHeader _ m e in
    let a = bind_ok (items_of (question_of bytes) (big_from 4 2 bytes) 12) _ m header.1 in
    let b = bind_ok (items_of (record_of bytes) (big_from 6 2 bytes) a.0.1) _ m a.2 in
    let c = bind_ok (items_of (record_of bytes) (big_from 8 2 bytes) b.0.1) _ m b.2 in
    let d = bind_ok (items_of (record_of bytes) (big_from 10 2 bytes) c.0.1) _ m c.2 in
    let made : Message = record { id = big_from 0 2 bytes; flags = big_from 2 2 bytes; questions = a.0.0; answers = b.0.0; authorities = c.0.0; additionals = d.0.0 } in
    let end = guard_ok (ltb d.0.1 (length bytes)) (TrailingBytes d.0.1) (Ok made) m d.2 in
    let long : 12 ≤ length bytes = ltb-false (length bytes) 12 header.0 in
    let questions = items_are_spelled (question_of bytes) (SpellsQuestion bytes) (question_is_spelled bytes) (big_from 4 2 bytes) 12 a.0 a.1 in
    let answers = items_are_spelled (record_of bytes) (SpellsRecord bytes) (record_is_spelled bytes) (big_from 6 2 bytes) a.0.1 b.0 b.1 in
    let authorities = items_are_spelled (record_of bytes) (SpellsRecord bytes) (record_is_spelled bytes) (big_from 8 2 bytes) b.0.1 c.0 c.1 in
    let additionals = items_are_spelled (record_of bytes) (SpellsRecord bytes) (record_is_spelled bytes) (big_from 10 2 bytes) c.0.1 d.0 d.1 in
    let in_question : (p : ℕ) (x : Question) (next : ℕ) → SpellsQuestion bytes p x next → next ≤ length bytes = λ p x next s. s.whole in
    let in_record : (p : ℕ) (x : Record) (next : ℕ) → SpellsRecord bytes p x next → next ≤ length bytes = λ p x next s. s.whole in
    let first_answer = items_within (question_of bytes) (SpellsQuestion bytes) (length bytes) in_question 12 a.0.0 a.0.1 long questions.0 in
    let first_authority = items_within (record_of bytes) (SpellsRecord bytes) (length bytes) in_record a.0.1 b.0.0 b.0.1 first_answer answers.0 in
    let first_additional = items_within (record_of bytes) (SpellsRecord bytes) (length bytes) in_record b.0.1 c.0.0 c.0.1 first_authority authorities.0 in
    let last = items_within (record_of bytes) (SpellsRecord bytes) (length bytes) in_record c.0.1 d.0.0 d.0.1 first_additional additionals.0 in
    let whole : d.0.1 ≡ length bytes = omega (arith, ltb-false d.0.1 (length bytes) end.0, last) in
    subst (λ (y : Message). Spells bytes y) (ok_is made m end.1) (record {
      header = long;
      id = refl;
      flags = refl;
      question_count = questions.1;
      answer_count = answers.1;
      authority_count = authorities.1;
      additional_count = additionals.1;
      first_answer = a.0.1;
      first_authority = b.0.1;
      first_additional = c.0.1;
      questions = questions.0;
      answers = answers.0;
      authorities = authorities.0;
      additionals = subst (λ (k : ℕ). SpellsAll (SpellsRecord bytes) c.0.1 d.0.0 k) whole additionals.0;
    })

-- what a result gives, if anything
some_ok : {A : Type 0} (r : Result A MessageFault) (x : A) → result_ok r ≡ Some x → r ≡ Ok x
some_ok (Ok y) x e = cc
some_ok (Err fault) x e = absurd cc

pub reading_spells : (bytes : List ℕ) (message : Message) → (message_of bytes ≡ Some message) ↔ Spells bytes message
reading_spells bytes message = (λ e. message_is_spelled bytes message (some_ok (message_read bytes) message e), λ s. ap result_ok (message_is_read bytes message s))

-- what reading gave is spelled
pub given_is_spelled : (bytes : List ℕ) (r : Result Message MessageFault) → Gives r (message_read bytes) → IfOk r (λ m. Spells bytes m)
given_is_spelled bytes (Ok m) given = message_is_spelled bytes m given
given_is_spelled bytes (Err fault) given = tt

-- where reading ends at a fault nothing is spelled
pub fault_spells_nothing : (bytes : List ℕ) (fault : MessageFault) → message_read bytes ≡ Err fault → SpellsNothing bytes
fault_spells_nothing bytes fault e m s = never fault m (sym e ∙ message_is_read bytes m s)

pub refused_spells_nothing : (bytes : List ℕ) (r : Result Message MessageFault) → Gives r (message_read bytes) → IfErr r (λ fault. fault ≢ NoMemory → SpellsNothing bytes)
refused_spells_nothing bytes (Ok m) given = tt
refused_spells_nothing bytes (Err fault) given = λ other. fault_spells_nothing bytes fault (given other)
