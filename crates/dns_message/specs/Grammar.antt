-- The grammar of messages: which bytes spell which message (RFC 1035, section 4.1).
-- Offsets count from the message's first byte, and a part ends at the offset behind its last byte.
use Rattle.std.specs.Prelude.{◌≡◌, ℕ, ◌+◌, ◌*◌, ◌<◌, ◌≤◌, List, [], ◌∷◌, ◌++◌, length, take, drop, slice_index, slice_range, Option}
use Rattle.std.specs.List.{flat_map}
use Rattle.std.specs.Result.{result_ok}
use Rattle.byteorder.specs.Endian.{big_from}
use Rattle.dns_message.specs.Name.{IsLabel, wire_length}
use Rattle.dns_message.specs.Shapes.{shape_by}
use Rattle.dns_message.specs.Spelling.{label_bytes, name_bytes}
use Rattle.dns_message.specs.Validity.{HoldsStrings}
use Rattle.dns_message.specs.Reading.{message_read}
use Rattle.dns_message.specs.declared.message.Question.{Question}
use Rattle.dns_message.specs.declared.message.Record.{Record}
use Rattle.dns_message.specs.declared.message.Message.{Message}
use Rattle.dns_message.specs.declared.shape.NamesShape.{NamesShape}
use Rattle.dns_message.specs.declared.shape.Shape.{Shape}
use Rattle.dns_message.specs.declared.shape.Shape.TheVariants as shapes

-- the part stands in the bytes from p on
abbrev pub StandsAt : List ℕ → ℕ → List ℕ → Type 0
StandsAt bytes p part = take (length part) (drop p bytes) ≡ part

-- a label stands at p: its length, and its bytes (section 3.1)
pub record HasLabel (bytes : List ℕ) (p : ℕ) (label : List ℕ) : Type 0 where
  pub is : IsLabel label
  pub here : StandsAt bytes p (label_bytes label)

-- two bytes at p are a pointer to that offset: the top bits 11, and the offset in the other 14 (section 4.1.4)
pub record HasPointer (bytes : List ℕ) (p target : ℕ) : Type 0 where
  pub whole : p + 2 ≤ length bytes
  pub top_bits : 192 ≤ slice_index bytes p
  pub offset : big_from p 2 bytes ≡ 192 * 256 + target

-- in a run of labels that begins at start these are the labels from p on, and the run's own bytes end at next:
-- the root's zero byte ends a run, a label is followed by the rest of its run, and a pointer goes on with a run that begins before its own (section 4.1.4)
pub data IsRun (bytes : List ℕ) : ℕ → ℕ → List (List ℕ) → ℕ → Type 0 where
  root : (start p : ℕ) → StandsAt bytes p (0 ∷ []) → IsRun bytes start p [] (p + 1)
  label : (start p : ℕ) (first : List ℕ) (labels : List (List ℕ)) (next : ℕ) → HasLabel bytes p first → IsRun bytes start (p + 1 + length first) labels next → IsRun bytes start p (first ∷ labels) next
  pointer : (start p target : ℕ) (labels : List (List ℕ)) (end : ℕ) → HasPointer bytes p target → target < start → IsRun bytes target target labels end → IsRun bytes start p labels (p + 2)

-- the name at p has these labels and its own bytes end at next: its runs give the labels, and it has at most 255 bytes (section 2.3.4)
pub record SpellsName (bytes : List ℕ) (p : ℕ) (labels : List (List ℕ)) (next : ℕ) : Type 0 where
  pub run : IsRun bytes p p labels next
  pub short : wire_length labels ≤ 255

-- from p on the items are spelled one behind the other, and the last ends at next
abbrev pub SpellsAll : {A : Type 0} → (ℕ → A → ℕ → Type 0) → ℕ → List A → ℕ → Type 0
SpellsAll Item p [] next = next ≡ p
SpellsAll Item p (x ∷ xs) next = (end : ℕ) × Item p x end × SpellsAll Item end xs next

-- the question from p to next: a name, then kind and class (section 4.1.2)
pub record SpellsQuestion (bytes : List ℕ) (p : ℕ) (question : Question) (next : ℕ) : Type 0 where
  pub fixed : ℕ
  pub name : SpellsName bytes p question.name fixed
  pub kind : question.kind ≡ big_from fixed 2 bytes
  pub class : question.class ≡ big_from (fixed + 2) 2 bytes
  pub end : next ≡ fixed + 4
  pub whole : next ≤ length bytes

-- from p to next stand so many bytes, so many names and so many bytes, and the rdata is the same with its names expanded
pub record SpellsNames (bytes : List ℕ) (p next : ℕ) (shape : NamesShape) (rdata : List ℕ) : Type 0 where
  pub names : List (List (List ℕ))
  pub behind : ℕ
  pub count : length names ≡ shape.names
  pub spelled : SpellsAll (SpellsName bytes) (p + shape.front) names behind
  pub end : next ≡ behind + shape.back
  pub expanded : rdata ≡ slice_range bytes p (p + shape.front) ++ flat_map name_bytes names ++ slice_range bytes behind next

-- from p to next the bytes have the shape, and the rdata is what they are with all names expanded
abbrev pub SpellsRdata : List ℕ → ℕ → ℕ → Shape → List ℕ → Type 0
SpellsRdata bytes p next shapes.Any rdata = rdata ≡ slice_range bytes p next
SpellsRdata bytes p next (shapes.Bytes count) rdata = (rdata ≡ slice_range bytes p next) × (next ≡ p + count)
SpellsRdata bytes p next shapes.TwoStrings rdata = (rdata ≡ slice_range bytes p next) × HoldsStrings 2 rdata
SpellsRdata bytes p next shapes.Strings rdata = (rdata ≡ slice_range bytes p next) × (count : ℕ) × HoldsStrings count rdata
SpellsRdata bytes p next (shapes.Names shape) rdata = SpellsNames bytes p next shape rdata

-- the record from p to next: a name, kind, class, time to live, the length of the rdata, and the rdata in the shape of its kind and class (section 4.1.3)
pub record SpellsRecord (bytes : List ℕ) (p : ℕ) (rr : Record) (next : ℕ) : Type 0 where
  pub fixed : ℕ
  pub name : SpellsName bytes p rr.name fixed
  pub kind : rr.kind ≡ big_from fixed 2 bytes
  pub class : rr.class ≡ big_from (fixed + 2) 2 bytes
  pub ttl : rr.ttl ≡ big_from (fixed + 4) 4 bytes
  pub end : next ≡ fixed + 10 + big_from (fixed + 8) 2 bytes
  pub whole : next ≤ length bytes
  pub rdata : SpellsRdata bytes (fixed + 10) next (shape_by rr.kind rr.class) rr.rdata

-- the bytes spell the message: a header of 12 bytes with identifier, flags and how many items each section has,
-- and behind it the four sections, which take all of the bytes (sections 4.1 and 4.1.1)
pub record Spells (bytes : List ℕ) (m : Message) : Type 0 where
  pub header : 12 ≤ length bytes
  pub id : m.id ≡ big_from 0 2 bytes
  pub flags : m.flags ≡ big_from 2 2 bytes
  pub question_count : length m.questions ≡ big_from 4 2 bytes
  pub answer_count : length m.answers ≡ big_from 6 2 bytes
  pub authority_count : length m.authorities ≡ big_from 8 2 bytes
  pub additional_count : length m.additionals ≡ big_from 10 2 bytes
  pub first_answer : ℕ
  pub first_authority : ℕ
  pub first_additional : ℕ
  pub questions : SpellsAll (SpellsQuestion bytes) 12 m.questions first_answer
  pub answers : SpellsAll (SpellsRecord bytes) first_answer m.answers first_authority
  pub authorities : SpellsAll (SpellsRecord bytes) first_authority m.authorities first_additional
  pub additionals : SpellsAll (SpellsRecord bytes) first_additional m.additionals (length bytes)

-- the message that reading gives, if it gives one
abbrev pub message_of : List ℕ → Option Message
message_of bytes = result_ok (message_read bytes)

-- the bytes spell no message
abbrev pub SpellsNothing : List ℕ → Type 0
SpellsNothing bytes = (m : Message) → ¬ Spells bytes m
