-- What a message says that asks one question (RFC 1035, section 4.1).
use Rattle.std.specs.Prelude.{ℕ, Bool, if◌then◌else◌, nat_lt, List, length, Option, Some, None, Result, Ok, Err}
use Rattle.std.specs.List.{list_any}
use Rattle.byteorder.specs.Endian.{big_from}
use Rattle.dns_message.specs.Reading.{◌>>=◌, items_of, record_of}
use Rattle.dns_message.specs.declared.fault.MessageFault.{MessageFault}
use Rattle.dns_message.specs.declared.fault.MessageFault.TheVariants.{TrailingBytes}
use Rattle.dns_message.specs.declared.message.Message.{Message}
use Rattle.dns_message.specs.declared.message.Question.{Question}
use Rattle.dns_message.specs.declared.message.Record.{Record}
use Rattle.message_walk.specs.Matching.{asks_only}
use Rattle.message_walk.specs.Sections.{is_wanted, opt_seen}
use Rattle.message_walk.specs.declared.outlining.Outline.{Outline}
use Rattle.message_walk.specs.declared.sections.OptSeen.{OptSeen}
use Rattle.message_walk.specs.declared.sections.OptSeen.TheVariants.{Absent, Extends, Unread}

-- the outline, where the OPT record can be read
abbrev pub outlined : Bool → OptSeen → Option Outline
outlined answered Absent = Some (record { answered = answered; extended = None })
outlined answered (Extends code) = Some (record { answered = answered; extended = Some code })
outlined answered Unread = None

-- the outline of what was read, where it is a message that asks this question alone, and its OPT record can be read
abbrev pub outline_of : Bool → Question → Option ℕ → Result Message MessageFault → Option Outline
outline_of exact asked wanted (Ok m) = if asks_only exact asked m.questions then outlined (list_any (is_wanted wanted) m.answers) (opt_seen m.additionals) else None
outline_of exact asked wanted (Err fault) = None

-- the answers, authorities and additionals from p on, behind which is nothing
abbrev pub sections_of : List ℕ → ℕ → Result (List Record × List Record × List Record) MessageFault
sections_of bytes p =
    items_of (record_of bytes) (big_from 6 2 bytes) p >>= λ answers.
    items_of (record_of bytes) (big_from 8 2 bytes) answers.1 >>= λ authorities.
    items_of (record_of bytes) (big_from 10 2 bytes) authorities.1 >>= λ additionals.
    if nat_lt additionals.1 (length bytes) then Err (TrailingBytes additionals.1)
    else Ok (answers.0, authorities.0, additionals.0)

-- the outline of the sections that were read
abbrev pub outline_behind : Option ℕ → Result (List Record × List Record × List Record) MessageFault → Option Outline
outline_behind wanted (Ok found) = outlined (list_any (is_wanted wanted) found.0) (opt_seen found.2)
outline_behind wanted (Err fault) = None
