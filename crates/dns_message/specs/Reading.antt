-- What stands in a message's bytes at an offset: a value, or the first fault in reading order (RFC 1035, section 4.1).
use Rattle.std.specs.Prelude.{◌≡◌, ◌≢◌, ℕ, zero, suc, ◌+◌, ◌-◌, ◌*◌, ◌<◌, ◌≤◌, ◌||◌, nat_lt, nat_le, ◌==◌, if◌then◌else◌, List, [], ◌∷◌, ◌++◌, length, slice_index, slice_range, not, is_some, Result, Ok, Err}
use Rattle.byteorder.specs.Endian.{big_from}
use Rattle.dns_message.specs.Name.{wire_length}
use Rattle.dns_message.specs.Spelling.{name_bytes}
use Rattle.dns_message.specs.Shapes.{shape_by, strings_of, is_two}
use Rattle.dns_message.specs.declared.message.Question.{Question}
use Rattle.dns_message.specs.declared.message.Record.{Record}
use Rattle.dns_message.specs.declared.message.Message.{Message}
use Rattle.dns_message.specs.declared.shape.NamesShape.{NamesShape}
use Rattle.dns_message.specs.declared.shape.Shape.{Shape}
use Rattle.dns_message.specs.declared.shape.Shape.TheVariants as shapes
use Rattle.dns_message.specs.declared.fault.MessageFault.{MessageFault}
use Rattle.dns_message.specs.declared.fault.MessageFault.TheVariants.{ShortHeader, ShortPart, BadLabel, BadPointer, LongName, BadRdata, TrailingBytes, NoMemory}
use Rattle.dns_message.specs.declared.name_reading.RunEnd.{RunEnd}
use Rattle.dns_message.specs.declared.name_reading.RunEnd.TheVariants.{Root, Pointer}

-- a step after a step: the first fault counts
infixl 10 ◌>>=◌
abbrev pub ◌>>=◌ : {A B : Type 0} → Result A MessageFault → (A → Result B MessageFault) → Result B MessageFault
(Ok x) >>= f = f x
(Err e) >>= f = Err e

-- a function gave what is read; want of memory may come in place of any answer
abbrev pub Gives : {X : Type 0} → Result X MessageFault → Result X MessageFault → Type 0
Gives (Ok x) read = read ≡ Ok x
Gives (Err fault) read = fault ≢ NoMemory → read ≡ Err fault

-- the byte at an offset
abbrev pub byte_at : List ℕ → ℕ → ℕ
byte_at bytes p = slice_index bytes p

-- the bytes of the label whose length byte is at p
abbrev pub label_of : List ℕ → ℕ → List ℕ
label_of bytes p = slice_range bytes (p + 1) (p + 1 + byte_at bytes p)

-- the offset behind the label at p, of a name that begins at start and has these labels in front
abbrev pub label_end : List ℕ → ℕ → ℕ → List (List ℕ) → Result ℕ MessageFault
label_end bytes start p front =
    if byte_at bytes p == 0 || nat_lt 63 (byte_at bytes p) then Err (BadLabel p)
    else (if nat_lt (length bytes - p - 1) (byte_at bytes p) then Err (ShortPart start)
    else (if nat_lt 255 (wire_length front + byte_at bytes p + 1) then Err (LongName start)
    else Ok (p + 1 + byte_at bytes p)))

-- a part of a run ends it, or is a label behind which the run goes on
pub data RunPart : Type 0 where
  ends : RunEnd → RunPart
  goes_on : ℕ → RunPart

-- the part of a run at p: the root's zero byte, a pointer of two bytes, or a label and where the run goes on
abbrev pub run_part : List ℕ → ℕ → ℕ → List (List ℕ) → Result RunPart MessageFault
run_part bytes start p front =
    if nat_le (length bytes) p then Err (ShortPart start)
    else (if byte_at bytes p == 0 then Ok (ends (Root (p + 1)))
    else (if nat_le 192 (byte_at bytes p)
    then (if nat_lt (length bytes - p) 2 then Err (ShortPart start) else Ok (ends (Pointer p ((byte_at bytes p - 192) * 256 + byte_at bytes (p + 1)))))
    else (label_end bytes start p front >>= λ next. Ok (goes_on next))))

-- the labels in front where the run ends here, or what stands behind a label
abbrev pub ended_or : (ℕ → Result (List (List ℕ) × RunEnd) MessageFault) → List (List ℕ) → RunPart → Result (List (List ℕ) × RunEnd) MessageFault
ended_or on front (ends end) = Ok (front, end)
ended_or on front (goes_on next) = on next

-- a run of at most so many parts from p on: the labels in front with its own behind them, and how it ends
abbrev pub run_within : ℕ → List ℕ → ℕ → ℕ → List (List ℕ) → Result (List (List ℕ) × RunEnd) MessageFault
run_within zero bytes start p front = Err (ShortPart start)
run_within (suc n) bytes start p front = run_part bytes start p front >>= ended_or (λ next. run_within n bytes start next (front ++ label_of bytes p ∷ [])) front

-- the run from p on
unfoldable pub run_of : List ℕ → ℕ → ℕ → List (List ℕ) → Result (List (List ℕ) × RunEnd) MessageFault
run_of bytes start p front = run_within (length bytes + 1) bytes start p front

-- where a name goes on: behind its root, or with the run at a target that is before the run that the pointer ends
abbrev pub after_run : (ℕ → List (List ℕ) → Result (List (List ℕ) × ℕ) MessageFault) → ℕ → List (List ℕ) × RunEnd → Result (List (List ℕ) × ℕ) MessageFault
after_run on run (labels, Root next) = Ok (labels, next)
after_run on run (labels, Pointer at target) =
    if nat_le run target then Err (BadPointer at) else (on target labels >>= λ name. Ok (name.0, at + 2))

-- a name of at most so many runs, the first of which begins at run
abbrev pub name_within : ℕ → List ℕ → ℕ → ℕ → List (List ℕ) → Result (List (List ℕ) × ℕ) MessageFault
name_within zero bytes start run front = Err (ShortPart start)
name_within (suc n) bytes start run front = run_of bytes start run front >>= after_run (λ target labels. name_within n bytes start target labels) run

-- the name at start: its labels, and the offset behind its own bytes
unfoldable pub name_of : List ℕ → ℕ → Result (List (List ℕ) × ℕ) MessageFault
name_of bytes start = name_within (start + 1) bytes start start []

-- the part of so many bytes at an offset
abbrev pub part_of : List ℕ → ℕ → ℕ → Result (List ℕ) MessageFault
part_of bytes p len = if nat_lt (length bytes - p) len then Err (ShortPart p) else Ok (slice_range bytes p (p + len))

-- the question at p, and the offset behind it
unfoldable pub question_of : List ℕ → ℕ → Result (Question × ℕ) MessageFault
question_of bytes p = do
  name ← name_of bytes p
  part ← part_of bytes name.1 4
  Ok (record { name = name.0; kind = big_from 0 2 part; class = big_from 2 2 part }, name.1 + 4)

-- so many items from p on, and the offset behind them
abbrev pub items_of : {A : Type 0} → (ℕ → Result (A × ℕ) MessageFault) → ℕ → ℕ → Result (List A × ℕ) MessageFault
items_of item zero p = Ok ([], p)
items_of item (suc n) p = do
  first ← item p
  others ← items_of item n first.1
  Ok (first.0 ∷ others.0, others.1)

-- a name without pointers, and the offset behind the one that was read
abbrev pub expanded_name : List ℕ → ℕ → Result (List ℕ × ℕ) MessageFault
expanded_name bytes p = name_of bytes p >>= λ name. Ok (name_bytes name.0, name.1)

-- one fault in place of any
abbrev pub or_else : {A : Type 0} → MessageFault → Result A MessageFault → Result A MessageFault
or_else bad (Ok x) = Ok x
or_else bad (Err fault) = Err bad

-- the bytes of so many items from p on, one behind the other, and the offset behind the items
abbrev pub joined_of : (ℕ → Result (List ℕ × ℕ) MessageFault) → ℕ → ℕ → Result (List ℕ × ℕ) MessageFault
joined_of item zero p = Ok ([], p)
joined_of item (suc n) p = do
  first ← item p
  others ← joined_of item n first.1
  Ok (first.0 ++ others.0, others.1)

-- bytes in front of those that are read
abbrev pub appended : List ℕ → Result (List ℕ × ℕ) MessageFault → Result (List ℕ × ℕ) MessageFault
appended front read = read >>= λ found. Ok (front ++ found.0, found.1)

-- rdata of names: so many bytes, the names without pointers, and the bytes behind them, which have to be so many
abbrev pub names_rdata : List ℕ → ℕ → ℕ → NamesShape → Result (List ℕ) MessageFault
names_rdata bytes p len s =
    if nat_lt len s.front then Err (BadRdata p)
    else (appended (slice_range bytes p (p + s.front)) (joined_of (λ q. or_else (BadRdata p) (expanded_name bytes q)) s.names (p + s.front)) >>= λ found.
    if nat_lt (p + len) found.1 || not (p + len - found.1 == s.back) then Err (BadRdata p) else Ok (found.0 ++ slice_range bytes found.1 (p + len)))

-- the rdata of so many bytes at p by its shape, with its names expanded
abbrev pub rdata_of : List ℕ → ℕ → ℕ → Shape → Result (List ℕ) MessageFault
rdata_of bytes p len shapes.Any = Ok (slice_range bytes p (p + len))
rdata_of bytes p len (shapes.Bytes count) = if len == count then Ok (slice_range bytes p (p + len)) else Err (BadRdata p)
rdata_of bytes p len shapes.TwoStrings = if is_two (strings_of (slice_range bytes p (p + len))) then Ok (slice_range bytes p (p + len)) else Err (BadRdata p)
rdata_of bytes p len shapes.Strings = if is_some (strings_of (slice_range bytes p (p + len))) then Ok (slice_range bytes p (p + len)) else Err (BadRdata p)
rdata_of bytes p len (shapes.Names s) = names_rdata bytes p len s

-- the record at p, and the offset behind it
unfoldable pub record_of : List ℕ → ℕ → Result (Record × ℕ) MessageFault
record_of bytes p = do
  name ← name_of bytes p
  part ← part_of bytes name.1 10
  whole ← part_of bytes (name.1 + 10) (big_from 8 2 part)
  rdata ← rdata_of bytes (name.1 + 10) (big_from 8 2 part) (shape_by (big_from 0 2 part) (big_from 2 2 part))
  Ok (record { name = name.0; kind = big_from 0 2 part; class = big_from 2 2 part; ttl = big_from 4 4 part; rdata = rdata }, name.1 + 10 + big_from 8 2 part)

-- the message that the bytes are, all of them, or the first fault
unfoldable pub message_read : List ℕ → Result Message MessageFault
message_read bytes =
    if nat_lt (length bytes) 12 then Err ShortHeader
    else (items_of (question_of bytes) (big_from 4 2 bytes) 12 >>= λ questions.
    items_of (record_of bytes) (big_from 6 2 bytes) questions.1 >>= λ answers.
    items_of (record_of bytes) (big_from 8 2 bytes) answers.1 >>= λ authorities.
    items_of (record_of bytes) (big_from 10 2 bytes) authorities.1 >>= λ additionals.
    if nat_lt additionals.1 (length bytes) then Err (TrailingBytes additionals.1)
    else Ok (record {
      id = big_from 0 2 bytes;
      flags = big_from 2 2 bytes;
      questions = questions.0;
      answers = answers.0;
      authorities = authorities.0;
      additionals = additionals.0;
    }))

-- the run that begins at an offset ends within so many bytes
abbrev pub EndsWithin : ℕ → ℕ → RunEnd → Type 0
EndsWithin run bytes (Root next) = (run < next) × (next ≤ bytes)
EndsWithin run bytes (Pointer at target) = (run ≤ at) × (at + 2 ≤ bytes)
