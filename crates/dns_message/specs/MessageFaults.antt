-- The first fault of bytes that spell no message: that of the first part, in reading order, that fails (RFC 1035, section 4.1).
-- The parts are the header, a name, the 4 bytes behind a question's name, the 10 bytes behind a record's name, and a record's rdata.
use Rattle.std.specs.Prelude.{◌≡◌, ℕ, ◌+◌, ◌<◌, ◌≤◌, List, [], ◌∷◌, ◌++◌, length, slice_index}
use Rattle.byteorder.specs.Endian.{big_from}
use Rattle.dns_message.specs.Name.{wire_length}
use Rattle.dns_message.specs.Shapes.{shape_by}
use Rattle.dns_message.specs.Grammar.{HasLabel, HasPointer, SpellsName, SpellsAll, SpellsQuestion, SpellsRdata, SpellsRecord}
use Rattle.dns_message.specs.declared.fault.MessageFault.{MessageFault}
use Rattle.dns_message.specs.declared.fault.MessageFault.TheVariants.{ShortHeader, ShortPart, BadLabel, BadPointer, LongName, BadRdata, TrailingBytes, NoMemory}

-- reading the name at start comes to p, in a run that begins at run, with these labels in front
pub data ComesTo (bytes : List ℕ) (start : ℕ) : ℕ → ℕ → List (List ℕ) → Type 0 where
  begins : ComesTo bytes start start start []
  over_label : (run p : ℕ) (front : List (List ℕ)) (next : List ℕ) → ComesTo bytes start run p front → HasLabel bytes p next → wire_length (front ++ next ∷ []) ≤ 255 → ComesTo bytes start run (p + 1 + length next) (front ++ next ∷ [])
  over_pointer : (run p : ℕ) (front : List (List ℕ)) (target : ℕ) → ComesTo bytes start run p front → HasPointer bytes p target → target < run → ComesTo bytes start target target front

-- the message ends before p, inside the pointer at p, or inside the label at p
pub data IsCut (bytes : List ℕ) (p : ℕ) : Type 0 where
  at_end : length bytes ≤ p → IsCut bytes p
  in_pointer : p < length bytes → 192 ≤ slice_index bytes p → length bytes < p + 2 → IsCut bytes p
  in_label : p < length bytes → 1 ≤ slice_index bytes p → slice_index bytes p ≤ 63 → length bytes < p + 1 + slice_index bytes p → IsCut bytes p

-- the name at start can't be read on at p, in a run that begins at run and behind these labels: the message ends, the byte at p has the top bits 01 or 10,
-- the pointer's target isn't before the run, or the label leaves no room for itself and the root's byte
abbrev pub StopsAt : List ℕ → ℕ → ℕ → ℕ → List (List ℕ) → MessageFault → Type 0
StopsAt bytes start run p front ShortHeader = ⊥
StopsAt bytes start run p front (ShortPart at) = (at ≡ start) × IsCut bytes p
StopsAt bytes start run p front (BadLabel at) = (at ≡ p) × (p < length bytes) × (64 ≤ slice_index bytes p) × (slice_index bytes p ≤ 191)
StopsAt bytes start run p front (BadPointer at) = (at ≡ p) × (target : ℕ) × HasPointer bytes p target × (run ≤ target)
StopsAt bytes start run p front (LongName at) = (at ≡ start) × (next : List ℕ) × HasLabel bytes p next × (255 < wire_length (front ++ next ∷ []))
StopsAt bytes start run p front (BadRdata at) = ⊥
StopsAt bytes start run p front (TrailingBytes at) = ⊥
StopsAt bytes start run p front NoMemory = ⊥

-- the first fault of the name at start
pub record NameFails (bytes : List ℕ) (start : ℕ) (fault : MessageFault) : Type 0 where
  pub run : ℕ
  pub at : ℕ
  pub front : List (List ℕ)
  pub comes : ComesTo bytes start run at front
  pub stops : StopsAt bytes start run at front fault

-- the first fault of the question at p: that of its name, or the message ends inside kind and class
pub data QuestionFails (bytes : List ℕ) (p : ℕ) : MessageFault → Type 0 where
  in_question_name : (fault : MessageFault) → NameFails bytes p fault → QuestionFails bytes p fault
  in_question_fixed : (labels : List (List ℕ)) (fixed : ℕ) → SpellsName bytes p labels fixed → length bytes < fixed + 4 → QuestionFails bytes p (ShortPart fixed)

-- the first fault of the record at p: that of its name, the message ends inside the 10 bytes behind it or inside the rdata, or the rdata hasn't the shape of its kind and class
pub data RecordFails (bytes : List ℕ) (p : ℕ) : MessageFault → Type 0 where
  in_record_name : (fault : MessageFault) → NameFails bytes p fault → RecordFails bytes p fault
  in_record_fixed : (labels : List (List ℕ)) (fixed : ℕ) → SpellsName bytes p labels fixed → length bytes < fixed + 10 → RecordFails bytes p (ShortPart fixed)
  in_rdata : (labels : List (List ℕ)) (fixed : ℕ) → SpellsName bytes p labels fixed → fixed + 10 ≤ length bytes → length bytes < fixed + 10 + big_from (fixed + 8) 2 bytes → RecordFails bytes p (ShortPart (fixed + 10))
  bad_shape : (labels : List (List ℕ)) (fixed : ℕ) → SpellsName bytes p labels fixed → fixed + 10 + big_from (fixed + 8) 2 bytes ≤ length bytes
      → ((rdata : List ℕ) → ¬ SpellsRdata bytes (fixed + 10) (fixed + 10 + big_from (fixed + 8) 2 bytes) (shape_by (big_from fixed 2 bytes) (big_from (fixed + 2) 2 bytes)) rdata)
      → RecordFails bytes p (BadRdata (fixed + 10))

-- of so many items from p on, some are spelled and the next one fails
pub record SomeFails {A : Type 0} (Item : ℕ → A → ℕ → Type 0) (Fails : ℕ → MessageFault → Type 0) (count p : ℕ) (fault : MessageFault) : Type 0 where
  pub front : List A
  pub at : ℕ
  pub fewer : length front < count
  pub spelled : SpellsAll Item p front at
  pub next : Fails at fault

-- so many items are spelled, from p to next
pub record SpellsSection {A : Type 0} (Item : ℕ → A → ℕ → Type 0) (count p next : ℕ) : Type 0 where
  pub items : List A
  pub many : length items ≡ count
  pub spelled : SpellsAll Item p items next

-- the header is whole, and the questions end at next
pub record HasQuestions (bytes : List ℕ) (next : ℕ) : Type 0 where
  pub header : 12 ≤ length bytes
  pub questions : SpellsSection (SpellsQuestion bytes) (big_from 4 2 bytes) 12 next

-- the same, and the answers behind the questions end at next
pub record HasAnswers (bytes : List ℕ) (next : ℕ) : Type 0 where
  pub first : ℕ
  pub before : HasQuestions bytes first
  pub answers : SpellsSection (SpellsRecord bytes) (big_from 6 2 bytes) first next

-- the same, and the authorities behind the answers end at next
pub record HasAuthorities (bytes : List ℕ) (next : ℕ) : Type 0 where
  pub first : ℕ
  pub before : HasAnswers bytes first
  pub authorities : SpellsSection (SpellsRecord bytes) (big_from 8 2 bytes) first next

-- the same, and the additionals behind the authorities end at next
pub record HasAdditionals (bytes : List ℕ) (next : ℕ) : Type 0 where
  pub first : ℕ
  pub before : HasAuthorities bytes first
  pub additionals : SpellsSection (SpellsRecord bytes) (big_from 10 2 bytes) first next

-- the first fault of the bytes, in reading order: the header is cut, all sections in front are spelled and an item of the next one fails,
-- or all four are spelled and bytes follow
pub data FirstFault (bytes : List ℕ) : MessageFault → Type 0 where
  in_header : length bytes < 12 → FirstFault bytes ShortHeader
  in_questions : (fault : MessageFault) → 12 ≤ length bytes → SomeFails (SpellsQuestion bytes) (QuestionFails bytes) (big_from 4 2 bytes) 12 fault → FirstFault bytes fault
  in_answers : (fault : MessageFault) (p : ℕ) → HasQuestions bytes p → SomeFails (SpellsRecord bytes) (RecordFails bytes) (big_from 6 2 bytes) p fault → FirstFault bytes fault
  in_authorities : (fault : MessageFault) (p : ℕ) → HasAnswers bytes p → SomeFails (SpellsRecord bytes) (RecordFails bytes) (big_from 8 2 bytes) p fault → FirstFault bytes fault
  in_additionals : (fault : MessageFault) (p : ℕ) → HasAuthorities bytes p → SomeFails (SpellsRecord bytes) (RecordFails bytes) (big_from 10 2 bytes) p fault → FirstFault bytes fault
  behind_all : (p : ℕ) → HasAdditionals bytes p → p < length bytes → FirstFault bytes (TrailingBytes p)
