-- What the records of a section say (RFC 1035, section 4.1.3; RFC 6891, section 6.1.1).
use Rattle.std.specs.Prelude.{ℕ, ◌==◌, ◌&&◌, ◌||◌, ◌/◌, ◌^◌, Bool, true, if◌then◌else◌, List, filter, Option, Some, None, Result, Ok, Err, is_ok}
use Rattle.std.specs.List.{list_any}
use Rattle.dns_message.specs.Numbers.{class_in, kind_opt}
use Rattle.dns_message.specs.declared.message.Record.{Record}
use Rattle.edns_opt.specs.Opt.{is_opt}
use Rattle.edns_opt.specs.Reading.{options_of, said_once}
use Rattle.edns_opt.specs.declared.opt.Opt.{Opt}
use Rattle.edns_opt.specs.declared.fault.EdnsFault.{EdnsFault}
use Rattle.message_walk.specs.declared.sections.OptSeen.{OptSeen}
use Rattle.message_walk.specs.declared.sections.OptSeen.TheVariants.{Absent, Extends, Unread}
use Rattle.message_walk.specs.declared.sections.Section.{Section}

-- a record of this kind and class is wanted: the kind is the wanted one and the class the Internet's, or any is wanted
abbrev pub wanted_by : Option ℕ → ℕ → ℕ → Bool
wanted_by None kind class = true
wanted_by (Some wanted) kind class = kind == wanted && class == class_in

-- the record is wanted
abbrev pub is_wanted : Option ℕ → Record → Bool
is_wanted wanted rr = wanted_by wanted rr.kind rr.class

-- what reading an OPT record gave
abbrev pub opt_told : Result (Option Opt) EdnsFault → OptSeen
opt_told (Ok None) = Absent
opt_told (Ok (Some opt)) = Extends opt.ext_rcode
opt_told (Err fault) = Unread

-- what the OPT records among these say
abbrev pub opt_seen : List Record → OptSeen
opt_seen records = opt_told (said_once (filter is_opt records))

-- what the records of a section say
abbrev pub section_of : Option ℕ → List Record → Section
section_of wanted records = record { wanted = list_any (is_wanted wanted) records; opt = opt_seen records }

-- what a record of this kind, ttl and rdata says if it is an OPT record: the upper bits of the response code are the ttl's highest byte
abbrev pub opt_by : ℕ → ℕ → List ℕ → OptSeen
opt_by kind ttl rdata = if kind == kind_opt then (if is_ok (options_of rdata) then Extends (ttl / 2 ^ 24) else Unread) else Absent

-- what the OPT records of two lists say together: there may be one at most
abbrev pub both : OptSeen → OptSeen → OptSeen
both Absent other = other
both (Extends code) Absent = Extends code
both (Extends code) (Extends other) = Unread
both (Extends code) Unread = Unread
both Unread other = Unread

-- what two lists of records say together
abbrev pub together : Section → Section → Section
together section other = record { wanted = section.wanted || other.wanted; opt = both section.opt other.opt }
