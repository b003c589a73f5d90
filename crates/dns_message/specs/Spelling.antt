-- The bytes of a message, each name without pointers (RFC 1035, section 4.1).
use Rattle.std.specs.Prelude.{ℕ, List, [], ◌∷◌, ◌++◌, length}
use Rattle.std.specs.List.{flat_map}
use Rattle.byteorder.specs.Endian.{big_bytes}
pub use Rattle.dns_message.specs.Wire.{label_bytes}
use Rattle.dns_message.specs.declared.message.Question.{Question}
use Rattle.dns_message.specs.declared.message.Record.{Record}
use Rattle.dns_message.specs.declared.message.Message.{Message}

-- a name: its labels, and the root's zero byte
abbrev pub name_bytes : List (List ℕ) → List ℕ
name_bytes labels = flat_map label_bytes labels ++ 0 ∷ []

-- a question: its name, kind and class
abbrev pub question_bytes : Question → List ℕ
question_bytes q = name_bytes q.name ++ big_bytes 2 q.kind ++ big_bytes 2 q.class

-- a record: its name, kind, class, time to live, and its rdata behind their length
abbrev pub record_bytes : Record → List ℕ
record_bytes rr = name_bytes rr.name ++ big_bytes 2 rr.kind ++ big_bytes 2 rr.class ++ big_bytes 4 rr.ttl ++ big_bytes 2 (length rr.rdata) ++ rr.rdata

-- the header: identifier, flags, and how many items each section has
abbrev pub header_bytes : Message → List ℕ
header_bytes m =
    big_bytes 2 m.id ++ big_bytes 2 m.flags ++ big_bytes 2 (length m.questions)
    ++ big_bytes 2 (length m.answers) ++ big_bytes 2 (length m.authorities) ++ big_bytes 2 (length m.additionals)

-- the four sections
abbrev pub sections_bytes : Message → List ℕ
sections_bytes m =
    flat_map question_bytes m.questions ++ flat_map record_bytes m.answers ++ flat_map record_bytes m.authorities ++ flat_map record_bytes m.additionals

-- a message: the header and the sections
abbrev pub message_bytes : Message → List ℕ
message_bytes m = header_bytes m ++ sections_bytes m
