-- What is spelled is valid, and is what the types of a message hold.
use Rattle.std.proofs.Common.{◌≡◌, ℕ, ◌+◌, ◌-◌, ◌*◌, ◌<◌, ◌≤◌, Bool, true, false, cond, eqb, List, [], ◌∷◌, ◌++◌, length, drop, Result, Ok, Err, ap, arith}
use Rattle.std.specs.Prelude.{◌&&◌, ◌||◌, slice_index, slice_range, IfOk}
use Rattle.std.specs.List.{flat_map, AllByRecursion}
use Rattle.std.proofs.lemmas.List.{length-append, length-take, length-drop}
use Rattle.byteorder.specs.Endian.{big_from}
use Rattle.byteorder.specs.Numbers.{big_from-lt}
use Rattle.dns_message.specs.Name.{IsLabel, IsName}
use Rattle.dns_message.specs.declared.message.Question.{Question}
use Rattle.dns_message.specs.declared.message.Record.{Record}
use Rattle.dns_message.specs.declared.message.Message.{Message}
use Rattle.dns_message.specs.declared.fault.MessageFault.{MessageFault}
use Rattle.dns_message.specs.declared.shape.NamesShape.{NamesShape}
use Rattle.dns_message.specs.declared.shape.Shape.{Shape}
use Rattle.dns_message.specs.declared.shape.Shape.TheVariants as shapes
use Rattle.dns_message.specs.Shapes.{names_shape, shape_by}
use Rattle.dns_message.specs.Spelling.{name_bytes}
use Rattle.dns_message.specs.Validity.{HasShape, HoldsNames, IsWritable, AreWritable, IsValid}
use Rattle.dns_message.specs.Message.{IsQuestion, IsRecord, IsMessage}
use Rattle.dns_message.specs.Reading.{Gives, message_read}
use Rattle.dns_message.specs.Grammar.{IsRun, root, label, pointer, SpellsName, SpellsAll, SpellsQuestion, SpellsNames, SpellsRdata, SpellsRecord, Spells}
use Rattle.dns_message.proofs.SpellingLemmas.{name_length}
use Rattle.dns_message.proofs.RdataGrammarLemmas.{names_after}
use Rattle.dns_message.proofs.GrammarLemmas.{message_is_spelled}

run_has_labels : (bytes : List ℕ) (run p : ℕ) (labels : List (List ℕ)) (next : ℕ) → IsRun bytes run p labels next → AllByRecursion IsLabel labels
run_has_labels bytes run p _ next (root _ _ here) = tt
run_has_labels bytes run p _ next (label _ _ first labels _ has rest) = (has.is, run_has_labels bytes run (p + 1 + length first) labels next rest)
run_has_labels bytes run p labels next (pointer _ _ target _ end has before there) = run_has_labels bytes target target labels end there

name_is : (bytes : List ℕ) (p : ℕ) (labels : List (List ℕ)) (next : ℕ) → SpellsName bytes p labels next → IsName labels
name_is bytes p labels next name = record { each = run_has_labels bytes p p labels next name.run; short = name.short }

-- what each item is
all_are : {A : Type 0} (Item : ℕ → A → ℕ → Type 0) (P : A → Type 0) → ((p : ℕ) (x : A) (next : ℕ) → Item p x next → P x) → (p : ℕ) (xs : List A) (next : ℕ) → SpellsAll Item p xs next → AllByRecursion P xs
all_are Item P one p [] next s = tt
all_are Item P one p (x ∷ xs) next s = (one p x s.0 s.1, all_are Item P one s.0 xs next s.2)

-- ---- rdata

-- how long a part is
slice_length : (bytes : List ℕ) (p next : ℕ) → next ≤ length bytes → length (slice_range bytes p next) ≡ next - p
slice_length bytes p next fits = omega (arith, length-take (next - p) (drop p bytes), length-drop p bytes)

names_hold : (bytes : List ℕ) (p next : ℕ) (s : NamesShape) (rdata : List ℕ) → next ≤ length bytes → SpellsNames bytes p next s rdata → HoldsNames s rdata
names_hold bytes p next s rdata fits x =
    let after : p + s.front ≤ x.behind = names_after bytes (p + s.front) x.names x.behind x.spelled in
    record {
      front = slice_range bytes p (p + s.front);
      names = x.names;
      back = slice_range bytes x.behind next;
      before = omega (arith, slice_length bytes p (p + s.front) (omega (arith, x.end)));
      count = x.count;
      each = all_are (SpellsName bytes) IsName (name_is bytes) (p + s.front) x.names x.behind x.spelled;
      behind = omega (arith, slice_length bytes x.behind next fits, x.end);
      parts = x.expanded;
    }

rdata_has_shape : (bytes : List ℕ) (p next : ℕ) (shape : Shape) (rdata : List ℕ) → next ≤ length bytes → SpellsRdata bytes p next shape rdata → HasShape shape rdata
rdata_has_shape bytes p next shapes.Any rdata fits s = tt
rdata_has_shape bytes p next (shapes.Bytes count) rdata fits s = omega (arith, ap length s.0, slice_length bytes p next fits, s.1)
rdata_has_shape bytes p next shapes.TwoStrings rdata fits s = s.1
rdata_has_shape bytes p next shapes.Strings rdata fits s = (s.1, s.2)
rdata_has_shape bytes p next (shapes.Names s) rdata fits x = names_hold bytes p next s rdata fits x

-- a shape with names has room for names of 255 bytes
abbrev IsSmall : Shape → Type 0
IsSmall shapes.Any = Unit {0}
IsSmall (shapes.Bytes count) = Unit {0}
IsSmall shapes.TwoStrings = Unit {0}
IsSmall shapes.Strings = Unit {0}
IsSmall (shapes.Names s) = s.front + 255 * s.names + s.back ≤ 65535

small_table : (a b c d e f g h : Bool) → IsSmall (cond a (shapes.Bytes 4) (cond b (shapes.Bytes 16) (cond c (names_shape 6 1 0) (cond d (names_shape 0 1 0) (cond e (names_shape 0 2 20) (cond f shapes.TwoStrings (cond g (names_shape 2 1 0) (cond h shapes.Strings shapes.Any))))))))
small_table true b c d e f g h = tt
small_table false true c d e f g h = tt
small_table false false true d e f g h = omega arith
small_table false false false true e f g h = omega arith
small_table false false false false true f g h = omega arith
small_table false false false false false true g h = tt
small_table false false false false false false true h = omega arith
small_table false false false false false false false true = tt
small_table false false false false false false false false = tt

small_shape : (kind class : ℕ) → IsSmall (shape_by kind class)
small_shape kind class = small_table (eqb kind 1 && eqb class 1) (eqb kind 28 && eqb class 1) (eqb kind 33 && eqb class 1) (eqb kind 2 || eqb kind 5 || eqb kind 12) (eqb kind 6) (eqb kind 13) (eqb kind 15) (eqb kind 16)

names_short : (names : List (List (List ℕ))) → AllByRecursion IsName names → length (flat_map name_bytes names) ≤ 255 * length names
names_short [] each = omega arith
names_short (labels ∷ names) each = omega (arith, length-append (name_bytes labels) (flat_map name_bytes names), name_length labels, each.0.short, names_short names each.1)

rdata_short : (bytes : List ℕ) (p next : ℕ) (shape : Shape) (rdata : List ℕ) → next ≤ length bytes → next ≤ p + 65535 → IsSmall shape → SpellsRdata bytes p next shape rdata → length rdata ≤ 65535
rdata_short bytes p next shapes.Any rdata fits few small s = omega (arith, ap length s, slice_length bytes p next fits)
rdata_short bytes p next (shapes.Bytes count) rdata fits few small s = omega (arith, ap length s.0, slice_length bytes p next fits)
rdata_short bytes p next shapes.TwoStrings rdata fits few small s = omega (arith, ap length s.0, slice_length bytes p next fits)
rdata_short bytes p next shapes.Strings rdata fits few small s = omega (arith, ap length s.0, slice_length bytes p next fits)
rdata_short bytes p next (shapes.Names s) rdata fits few small x =
    let holds = names_hold bytes p next s rdata fits x in
    let middle = flat_map name_bytes holds.names in
    omega (arith, ap length holds.parts, length-append (holds.front ++ middle) holds.back, length-append holds.front middle, names_short holds.names holds.each, holds.before, holds.count, holds.behind, small)

-- ---- messages

module _ (bytes : List ℕ) (fits : (i : ℕ) → slice_index bytes i < 256) where
  question_is : (p : ℕ) (q : Question) (next : ℕ) → SpellsQuestion bytes p q next → IsQuestion q
  question_is p q next s = record {
    name = name_is bytes p q.name s.fixed s.name;
    kind = rw s.kind (big_from-lt s.fixed 2 bytes fits);
    class = rw s.class (big_from-lt (s.fixed + 2) 2 bytes fits);
  }

  record_is : (p : ℕ) (rr : Record) (next : ℕ) → SpellsRecord bytes p rr next → IsRecord rr
  record_is p rr next s = record {
    name = name_is bytes p rr.name s.fixed s.name;
    kind = rw s.kind (big_from-lt s.fixed 2 bytes fits);
    class = rw s.class (big_from-lt (s.fixed + 2) 2 bytes fits);
    ttl = rw s.ttl (big_from-lt (s.fixed + 4) 4 bytes fits);
  }

  record_writable : (p : ℕ) (rr : Record) (next : ℕ) → SpellsRecord bytes p rr next → IsWritable rr
  record_writable p rr next s =
      let few : big_from (s.fixed + 8) 2 bytes < 65536 = big_from-lt (s.fixed + 8) 2 bytes fits in
      record {
        short = rdata_short bytes (s.fixed + 10) next (shape_by rr.kind rr.class) rr.rdata s.whole (omega (arith, s.end)) (small_shape rr.kind rr.class) s.rdata;
        shaped = rdata_has_shape bytes (s.fixed + 10) next (shape_by rr.kind rr.class) rr.rdata s.whole s.rdata;
      }

  section_writable : (i p : ℕ) (records : List Record) (next : ℕ) → length records ≡ big_from i 2 bytes → SpellsAll (SpellsRecord bytes) p records next → AreWritable records
  section_writable i p records next count s =
      let few : big_from i 2 bytes < 65536 = big_from-lt i 2 bytes fits in
      record { few = omega arith; each = all_are (SpellsRecord bytes) IsWritable record_writable p records next s }

  pub spelled_is_valid : (m : Message) → Spells bytes m → IsValid m
  spelled_is_valid m s =
      let few : big_from 4 2 bytes < 65536 = big_from-lt 4 2 bytes fits in
      record {
        questions = omega (arith, s.question_count);
        answers = section_writable 6 s.first_answer m.answers s.first_authority s.answer_count s.answers;
        authorities = section_writable 8 s.first_authority m.authorities s.first_additional s.authority_count s.authorities;
        additionals = section_writable 10 s.first_additional m.additionals (length bytes) s.additional_count s.additionals;
      }

  pub spelled_is_message : (m : Message) → Spells bytes m → IsMessage m
  spelled_is_message m s = record {
    header = record { id = rw s.id (big_from-lt 0 2 bytes fits); flags = rw s.flags (big_from-lt 2 2 bytes fits) };
    sections = record {
      questions = all_are (SpellsQuestion bytes) IsQuestion question_is 12 m.questions s.first_answer s.questions;
      answers = all_are (SpellsRecord bytes) IsRecord record_is s.first_answer m.answers s.first_authority s.answers;
      authorities = all_are (SpellsRecord bytes) IsRecord record_is s.first_authority m.authorities s.first_additional s.authorities;
      additionals = all_are (SpellsRecord bytes) IsRecord record_is s.first_additional m.additionals (length bytes) s.additionals;
    };
  }

  -- what reading gave
  pub given_is_valid : (r : Result Message MessageFault) → Gives r (message_read bytes) → IfOk r (λ m. IsValid m)
  given_is_valid (Ok m) given = spelled_is_valid m (message_is_spelled bytes m given)
  given_is_valid (Err fault) given = tt

  pub given_is_message : (r : Result Message MessageFault) → Gives r (message_read bytes) → IfOk r (λ m. IsMessage m)
  given_is_message (Ok m) given = spelled_is_message m (message_is_spelled bytes m given)
  given_is_message (Err fault) given = tt
