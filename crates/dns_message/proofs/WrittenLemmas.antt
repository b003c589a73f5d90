-- What is written of a valid message is spelled so.
use Rattle.std.proofs.Common.{◌≡◌, ℕ, ◌+◌, ◌-◌, List, [], ◌∷◌, ◌++◌, length, take, drop, Ok, refl, sym, ap, subst, ◌∙◌, append_assoc, arith}
use Rattle.std.specs.Prelude.{slice_range}
use Rattle.std.specs.List.{flat_map, AllByRecursion}
use Rattle.std.proofs.lemmas.List.{append-nil, length-append}
use Rattle.byteorder.specs.Endian.{big_from, big_bytes}
use Rattle.dns_message.specs.Name.{IsLabel, IsName, wire_length}
use Rattle.dns_message.specs.declared.message.Question.{Question}
use Rattle.dns_message.specs.declared.message.Record.{Record}
use Rattle.dns_message.specs.declared.message.Message.{Message}
use Rattle.dns_message.specs.declared.shape.NamesShape.{NamesShape}
use Rattle.dns_message.specs.declared.shape.Shape.{Shape}
use Rattle.dns_message.specs.declared.shape.Shape.TheVariants as shapes
use Rattle.dns_message.specs.Shapes.{shape_by}
use Rattle.dns_message.specs.Spelling.{label_bytes, name_bytes, question_bytes, record_bytes, header_bytes, sections_bytes, message_bytes}
use Rattle.dns_message.specs.Validity.{HoldsNames, HasShape, IsWritable, IsValid}
use Rattle.dns_message.specs.Reading.{message_read}
use Rattle.dns_message.specs.Grammar.{StandsAt, IsRun, root, label, SpellsName, SpellsAll, SpellsQuestion, SpellsNames, SpellsRdata, SpellsRecord, Spells}
use Rattle.dns_message.specs.Message.{IsQuestion, IsRecord, HasTypedHeader, HasTypedSections, IsMessage}
use Rattle.dns_message.proofs.SpellingLemmas.{name_length, question_length, record_length}
use Rattle.dns_message.proofs.PartLemmas.{stands_from, stands_fits, stands_first, stands_second, number_back}
use Rattle.dns_message.proofs.GrammarLemmas.{message_is_read}

-- a part is what stands from its first byte to its end
stands_slice : (bytes : List ℕ) (p : ℕ) (part : List ℕ) (end : ℕ) → end ≡ p + length part → StandsAt bytes p part → slice_range bytes p end ≡ part
stands_slice bytes p part end e here = let len : end - p ≡ length part = omega arith in ap (λ (n : ℕ). take n (drop p bytes)) len ∙ here

-- ---- names

pub name_stands : (bytes : List ℕ) (start p : ℕ) (labels : List (List ℕ)) (next : ℕ) → AllByRecursion IsLabel labels → next ≡ p + wire_length labels → StandsAt bytes p (name_bytes labels) → IsRun bytes start p labels next
name_stands bytes start p [] next each e here = subst (λ (k : ℕ). IsRun bytes start p [] k) (sym e) (root start p here)
name_stands bytes start p (first ∷ labels) next each e here =
    let parts : name_bytes (first ∷ labels) ≡ label_bytes first ++ name_bytes labels = append_assoc (label_bytes first) (flat_map label_bytes labels) (0 ∷ []) in
    let stands : StandsAt bytes p (label_bytes first ++ name_bytes labels) = subst (λ (part : List ℕ). StandsAt bytes p part) parts here in
    label start p first labels next (record { is = each.0; here = stands_first bytes p (label_bytes first) (name_bytes labels) stands })
    (name_stands bytes start (p + 1 + length first) labels next each.1 (omega arith) (stands_second bytes p (label_bytes first) (name_bytes labels) (p + 1 + length first) (omega arith) stands))

pub name_written : (bytes : List ℕ) (p : ℕ) (labels : List (List ℕ)) (next : ℕ) → IsName labels → next ≡ p + wire_length labels → StandsAt bytes p (name_bytes labels) → SpellsName bytes p labels next
name_written bytes p labels next name e here = record { run = name_stands bytes p p labels next name.each e here; short = name.short }

-- ---- items

module _ {A : Type 0} (bytes : List ℕ) (f : A → List ℕ) (P : A → Type 0) (Item : ℕ → A → ℕ → Type 0) (one : (p : ℕ) (x : A) (next : ℕ) → P x → next ≡ p + length (f x) → StandsAt bytes p (f x) → Item p x next) where
  pub items_written : (p : ℕ) (xs : List A) (next : ℕ) → AllByRecursion P xs → next ≡ p + length (flat_map f xs) → StandsAt bytes p (flat_map f xs) → SpellsAll Item p xs next
  items_written p [] next each e here = omega arith
  items_written p (x ∷ xs) next each e here =
      let end = p + length (f x) in
      let both : length (f x ++ flat_map f xs) ≡ length (f x) + length (flat_map f xs) = length-append (f x) (flat_map f xs) in (
        end,
        one p x end each.0 refl (stands_first bytes p (f x) (flat_map f xs) here),
        items_written end xs next each.1 (omega arith) (stands_second bytes p (f x) (flat_map f xs) end refl here),
      )

-- ---- rdata

names_written : (bytes : List ℕ) (p next : ℕ) (s : NamesShape) (rdata : List ℕ) → next ≡ p + length rdata → HoldsNames s rdata → StandsAt bytes p rdata → SpellsNames bytes p next s rdata
names_written bytes p next s rdata e holds here =
    let middle = flat_map name_bytes holds.names in
    let total : length rdata ≡ s.front + length middle + s.back = omega (arith, ap length holds.parts, length-append (holds.front ++ middle) holds.back, length-append holds.front middle, holds.before, holds.behind) in
    let stands : StandsAt bytes p (holds.front ++ middle ++ holds.back) = subst (λ (part : List ℕ). StandsAt bytes p part) holds.parts here in
    let both = stands_first bytes p (holds.front ++ middle) holds.back stands in
    let first = stands_first bytes p holds.front middle both in
    let behind = p + s.front + length middle in
    let second = stands_second bytes p holds.front middle (p + s.front) (omega (arith, holds.before)) both in
    let last = stands_second bytes p (holds.front ++ middle) holds.back behind (omega (arith, length-append holds.front middle, holds.before)) stands in
    record {
      names = holds.names;
      behind = behind;
      count = holds.count;
      spelled = items_written bytes name_bytes IsName (SpellsName bytes) (λ q labels end name at stands. name_written bytes q labels end name (omega (arith, name_length labels)) stands) (p + s.front) holds.names behind holds.each refl second;
      end = omega arith;
      expanded = holds.parts
          ∙ ap (λ (l : List ℕ). l ++ middle ++ holds.back) (sym (stands_slice bytes p holds.front (p + s.front) (omega (arith, holds.before)) first))
          ∙ ap (λ (l : List ℕ). slice_range bytes p (p + s.front) ++ middle ++ l) (sym (stands_slice bytes behind holds.back next (omega (arith, holds.behind)) last));
    }

pub rdata_written : (bytes : List ℕ) (p next : ℕ) (shape : Shape) (rdata : List ℕ) → next ≡ p + length rdata → HasShape shape rdata → StandsAt bytes p rdata → SpellsRdata bytes p next shape rdata
rdata_written bytes p next shapes.Any rdata e holds here = sym (stands_slice bytes p rdata next e here)
rdata_written bytes p next (shapes.Bytes count) rdata e holds here = (sym (stands_slice bytes p rdata next e here), omega (arith, holds))
rdata_written bytes p next shapes.TwoStrings rdata e holds here = (sym (stands_slice bytes p rdata next e here), holds)
rdata_written bytes p next shapes.Strings rdata e holds here = (sym (stands_slice bytes p rdata next e here), holds.0, holds.1)
rdata_written bytes p next (shapes.Names s) rdata e holds here = names_written bytes p next s rdata e holds here

-- ---- questions and records

question_written : (bytes : List ℕ) (p : ℕ) (q : Question) (next : ℕ) → IsQuestion q → next ≡ p + length (question_bytes q) → StandsAt bytes p (question_bytes q) → SpellsQuestion bytes p q next
question_written bytes p q next is e here =
    let fixed = p + wire_length q.name in
    let len = name_length q.name in
    let total = question_length q in
    let front = stands_first bytes p (name_bytes q.name ++ big_bytes 2 q.kind) (big_bytes 2 q.class) here in
    record {
      fixed = fixed;
      name = name_written bytes p q.name fixed is.name refl (stands_first bytes p (name_bytes q.name) (big_bytes 2 q.kind) front);
      kind = sym (number_back 2 q.kind fixed bytes is.kind (stands_second bytes p (name_bytes q.name) (big_bytes 2 q.kind) fixed (omega arith) front));
      class = sym (number_back 2 q.class (fixed + 2) bytes is.class (stands_second bytes p (name_bytes q.name ++ big_bytes 2 q.kind) (big_bytes 2 q.class) (fixed + 2) (omega (arith, length-append (name_bytes q.name) (big_bytes 2 q.kind))) here));
      end = omega arith;
      whole = omega (arith, stands_fits bytes p (question_bytes q) here);
    }

record_written : (bytes : List ℕ) (p : ℕ) (rr : Record) (next : ℕ) → IsRecord rr × IsWritable rr → next ≡ p + length (record_bytes rr) → StandsAt bytes p (record_bytes rr) → SpellsRecord bytes p rr next
record_written bytes p rr next writable e here =
    let fixed = p + wire_length rr.name in
    let len = name_length rr.name in
    let total = record_length rr in
    let name = name_bytes rr.name in
    let kind = big_bytes 2 rr.kind in
    let class = big_bytes 2 rr.class in
    let ttl = big_bytes 4 rr.ttl in
    let count = big_bytes 2 (length rr.rdata) in
    let len1 = length-append name kind in
    let len2 = length-append (name ++ kind) class in
    let len3 = length-append (name ++ kind ++ class) ttl in
    let len4 = length-append (name ++ kind ++ class ++ ttl) count in
    let front4 = stands_first bytes p (name ++ kind ++ class ++ ttl ++ count) rr.rdata here in
    let front3 = stands_first bytes p (name ++ kind ++ class ++ ttl) count front4 in
    let front2 = stands_first bytes p (name ++ kind ++ class) ttl front3 in
    let front1 = stands_first bytes p (name ++ kind) class front2 in
    let many : big_from (fixed + 8) 2 bytes ≡ length rr.rdata = number_back 2 (length rr.rdata) (fixed + 8) bytes (omega (arith, writable.1.short)) (stands_second bytes p (name ++ kind ++ class ++ ttl) count (fixed + 8) (omega arith) front4) in
    record {
      fixed = fixed;
      name = name_written bytes p rr.name fixed writable.0.name refl (stands_first bytes p name kind front1);
      kind = sym (number_back 2 rr.kind fixed bytes writable.0.kind (stands_second bytes p name kind fixed (omega arith) front1));
      class = sym (number_back 2 rr.class (fixed + 2) bytes writable.0.class (stands_second bytes p (name ++ kind) class (fixed + 2) (omega arith) front2));
      ttl = sym (number_back 4 rr.ttl (fixed + 4) bytes writable.0.ttl (stands_second bytes p (name ++ kind ++ class) ttl (fixed + 4) (omega arith) front3));
      end = omega arith;
      whole = omega (arith, stands_fits bytes p (record_bytes rr) here);
      rdata = rdata_written bytes (fixed + 10) next (shape_by rr.kind rr.class) rr.rdata (omega arith) writable.1.shaped (stands_second bytes p (name ++ kind ++ class ++ ttl ++ count) rr.rdata (fixed + 10) (omega arith) here);
    }

-- ---- messages

-- both hold of each item
both_each : {A : Type 0} (P Q : A → Type 0) (xs : List A) → AllByRecursion P xs → AllByRecursion Q xs → AllByRecursion (λ x. P x × Q x) xs
both_each P Q [] p q = tt
both_each P Q (x ∷ xs) p q = ((p.0, q.0), both_each P Q xs p.1 q.1)

pub written_is_spelled : (m : Message) → IsMessage m → IsValid m → Spells (message_bytes m) m
written_is_spelled m is valid =
    let answers = both_each IsRecord IsWritable m.answers is.sections.answers valid.answers.each in
    let authorities = both_each IsRecord IsWritable m.authorities is.sections.authorities valid.authorities.each in
    let additionals = both_each IsRecord IsWritable m.additionals is.sections.additionals valid.additionals.each in
    let bytes = message_bytes m in
    let all : StandsAt bytes 0 bytes = stands_from bytes 0 bytes [] (sym (append-nil bytes)) in
    let id = big_bytes 2 m.id in
    let flags = big_bytes 2 m.flags in
    let qs = big_bytes 2 (length m.questions) in
    let as_ = big_bytes 2 (length m.answers) in
    let ns = big_bytes 2 (length m.authorities) in
    let xs = big_bytes 2 (length m.additionals) in
    let head6 = stands_first bytes 0 (header_bytes m) (sections_bytes m) all in
    let head5 = stands_first bytes 0 (id ++ flags ++ qs ++ as_ ++ ns) xs head6 in
    let head4 = stands_first bytes 0 (id ++ flags ++ qs ++ as_) ns head5 in
    let head3 = stands_first bytes 0 (id ++ flags ++ qs) as_ head4 in
    let head2 = stands_first bytes 0 (id ++ flags) qs head3 in
    let q = flat_map question_bytes m.questions in
    let a = flat_map record_bytes m.answers in
    let n = flat_map record_bytes m.authorities in
    let x = flat_map record_bytes m.additionals in
    let body4 : StandsAt bytes 12 (sections_bytes m) = stands_second bytes 0 (header_bytes m) (sections_bytes m) 12 refl all in
    let body3 = stands_first bytes 12 (q ++ a ++ n) x body4 in
    let body2 = stands_first bytes 12 (q ++ a) n body3 in
    let len2 = length-append q a in
    let len3 = length-append (q ++ a) n in
    let len4 = length-append (q ++ a ++ n) x in
    let whole : length bytes ≡ 12 + length (sections_bytes m) = length-append (header_bytes m) (sections_bytes m) in
    let end1 = 12 + length q in
    let end2 = end1 + length a in
    let end3 = end2 + length n in
    record {
      header = omega arith;
      id = sym (number_back 2 m.id 0 bytes is.header.id (stands_first bytes 0 id flags (stands_first bytes 0 (id ++ flags) qs head3)));
      flags = sym (number_back 2 m.flags 2 bytes is.header.flags (stands_second bytes 0 id flags 2 refl head2));
      question_count = sym (number_back 2 (length m.questions) 4 bytes (omega (arith, valid.questions)) (stands_second bytes 0 (id ++ flags) qs 4 refl head3));
      answer_count = sym (number_back 2 (length m.answers) 6 bytes (omega (arith, valid.answers.few)) (stands_second bytes 0 (id ++ flags ++ qs) as_ 6 refl head4));
      authority_count = sym (number_back 2 (length m.authorities) 8 bytes (omega (arith, valid.authorities.few)) (stands_second bytes 0 (id ++ flags ++ qs ++ as_) ns 8 refl head5));
      additional_count = sym (number_back 2 (length m.additionals) 10 bytes (omega (arith, valid.additionals.few)) (stands_second bytes 0 (id ++ flags ++ qs ++ as_ ++ ns) xs 10 refl head6));
      first_answer = end1;
      first_authority = end2;
      first_additional = end3;
      questions = items_written bytes question_bytes IsQuestion (SpellsQuestion bytes) (question_written bytes) 12 m.questions end1 is.sections.questions refl (stands_first bytes 12 q a body2);
      answers = items_written bytes record_bytes (λ rr. IsRecord rr × IsWritable rr) (SpellsRecord bytes) (record_written bytes) end1 m.answers end2 answers refl (stands_second bytes 12 q a end1 refl body2);
      authorities = items_written bytes record_bytes (λ rr. IsRecord rr × IsWritable rr) (SpellsRecord bytes) (record_written bytes) end2 m.authorities end3 authorities refl (stands_second bytes 12 (q ++ a) n end2 (omega arith) body3);
      additionals = items_written bytes record_bytes (λ rr. IsRecord rr × IsWritable rr) (SpellsRecord bytes) (record_written bytes) end3 m.additionals (length bytes) additionals (omega arith) (stands_second bytes 12 (q ++ a ++ n) x end3 (omega arith) body4);
    }

pub written_is_read : (m : Message) → IsMessage m → IsValid m → message_read (message_bytes m) ≡ Ok m
written_is_read m is valid = message_is_read (message_bytes m) m (written_is_spelled m is valid)

-- what was written, of what its types hold
pub encoded_reads : (bytes : List ℕ) (m : Message) → bytes ≡ message_bytes m → HasTypedHeader m → HasTypedSections m → IsValid m → message_read bytes ≡ Ok m
encoded_reads bytes m same header sections valid = ap message_read same ∙ written_is_read m (record { header = header; sections = sections }) valid
