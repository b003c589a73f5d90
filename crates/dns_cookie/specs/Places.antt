-- Where the parts of a message stand that matter for cookies.
use Rattle.std.specs.Prelude.{◌≡◌, ℕ, List, slice_range, Option, Some, None, Result, Ok, Err}
use Rattle.std.specs.Borrow.{Bor}
use Rattle.byteorder.specs.Endian.{big_from}
use Rattle.dns_message.specs.Numbers.{kind_opt}
use Rattle.dns_message.specs.Reading.{items_of, record_of}
use Rattle.dns_message.specs.declared.fault.MessageFault.{MessageFault}
use Rattle.dns_message.specs.declared.message.Message.{Message}
use Rattle.dns_message.specs.declared.message.Record.{Record}
use Rattle.edns_opt.specs.declared.opt.EdnsItem.{EdnsItem}
use Rattle.message_walk.specs.Sections.{opt_seen}
use Rattle.message_walk.specs.declared.sections.OptSeen.{OptSeen}
use Rattle.dns_cookie.specs.declared.places.RecordPlace.{RecordPlace}

-- the message has the identifier and the flags of the bytes, its additional records stand at that offset, and the OPT records among them say that
pub record IsPlacedIn (bytes : List ℕ) (at : ℕ) (says : OptSeen) (m : Message) : Type 0 where
  pub id : m.id ≡ big_from 0 2 bytes
  pub flags : m.flags ≡ big_from 2 2 bytes
  pub told : says ≡ opt_seen m.additionals
  pub end : ℕ
  pub stand : items_of (record_of bytes) (big_from 10 2 bytes) at ≡ Ok (m.additionals, end)

-- a message was read that is placed so; or reading ends with the fault
abbrev pub IsPlaced : List ℕ → Result (ℕ × OptSeen) MessageFault → Result Message MessageFault → Type 0
IsPlaced bytes (Ok found) read = (m : Message) × (read ≡ Ok m) × IsPlacedIn bytes found.0 found.1 m
IsPlaced bytes (Err fault) read = read ≡ Err fault

-- the record that is read, if one is, has that kind and ends there; and the rdata of an OPT record stands there
abbrev pub Stands : List ℕ → Option RecordPlace → Result (Record × ℕ) MessageFault → Type 0
Stands bytes None read = (fault : MessageFault) × (read ≡ Err fault)
Stands bytes (Some place) read = (rr : Record) (next : ℕ) → read ≡ Ok (rr, next)
    → (rr.kind ≡ place.kind) × (next ≡ place.end) × (place.kind ≡ kind_opt → rr.rdata ≡ slice_range bytes place.rdata_at place.end)

-- an option whose content, and the bytes behind it, are borrowed
abbrev pub option_seen : ℕ × Bor (List ℕ) × Bor (List ℕ) → EdnsItem × List ℕ
option_seen found = (record { code = found.0; content = found.1.now }, found.2.now)
