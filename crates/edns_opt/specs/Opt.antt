-- What a message's OPT record says (RFC 6891, section 6.1), and the response code that it extends.
use Rattle.std.specs.Prelude.{◌≡◌, ℕ, ◌+◌, ◌*◌, ◌%◌, ◌^◌, ◌<◌, ◌==◌, Bool, if◌then◌else◌, List, [], ◌∷◌, ◌++◌, length, filter, Option, Some, None, ⊤}
use Rattle.std.specs.List.{AllByRecursion}
use Rattle.dns_message.specs.Numbers.{kind_opt}
use Rattle.dns_message.specs.declared.message.Message.{Message}
use Rattle.dns_message.specs.declared.message.Record.{Record}
use Rattle.edns_opt.specs.declared.opt.Opt.{Opt}
use Rattle.edns_opt.specs.declared.fault.EdnsFault.{EdnsFault}
use Rattle.edns_opt.specs.declared.fault.EdnsFault.TheVariants.{DoubleOpt, BadOptions, NoMemory}
use Rattle.edns_opt.specs.Options.{spelling, FitsOption, AreBytes, StopsFitting}

-- the record is an OPT record
abbrev pub is_opt : Record → Bool
is_opt rr = rr.kind == kind_opt

-- the OPT records of a message: those of its additional section alone
abbrev pub opt_records : Message → List Record
opt_records message = filter is_opt message.additionals

-- the ttl of an OPT record: the extended response code, the version, the bit DO, and the 15 bits Z
abbrev pub ttl_of : ℕ → ℕ → Bool → ℕ → ℕ
ttl_of ext_rcode version do_bit z = ext_rcode * 2 ^ 24 + version * 2 ^ 16 + (if do_bit then 2 ^ 15 else 0) + z

-- what fits the fields of an OPT record
pub record FitsOpt (opt : Opt) : Type 0 where
  pub size : opt.size < 2 ^ 16
  pub ext_rcode : opt.ext_rcode < 2 ^ 8
  pub version : opt.version < 2 ^ 8
  pub options : AllByRecursion FitsOption opt.options

-- what the record says, whatever its owner name and its bits Z are
pub record Says (rr : Record) (opt : Opt) : Type 0 where
  pub fits : FitsOpt opt
  pub z : ℕ
  pub z_fits : z < 2 ^ 15
  pub size : rr.class ≡ opt.size
  pub ttl : rr.ttl ≡ ttl_of opt.ext_rcode opt.version opt.do_bit z
  pub options : rr.rdata ≡ spelling opt.options

-- what the message's OPT record says, where it has exactly one; or that it has none
abbrev pub IsOptOf : Message → Option Opt → Type 0
IsOptOf message None = opt_records message ≡ []
IsOptOf message (Some opt) = (rr : Record) × (opt_records message ≡ rr ∷ []) × Says rr opt

-- the fault has its cause in the message; want of memory needs none
abbrev pub HasCause : Message → EdnsFault → Type 0
HasCause message DoubleOpt = 1 < length (opt_records message)
HasCause message (BadOptions offset) = (rr : Record) × (opt_records message ≡ rr ∷ []) × StopsFitting rr.rdata offset
HasCause message NoMemory = ⊤

-- the numbers of a record fit their fields, and its rdata is bytes
pub record FitsRecord (rr : Record) : Type 0 where
  pub class : rr.class < 2 ^ 16
  pub ttl : rr.ttl < 2 ^ 32
  pub rdata : AreBytes rr.rdata

-- the record that says it, with the root as its owner name and its bits Z zero
abbrev pub opt_record : Opt → Record
opt_record opt = record { name = []; kind = kind_opt; class = opt.size; ttl = ttl_of opt.ext_rcode opt.version opt.do_bit 0; rdata = spelling opt.options }

-- the message with that record behind its other additional records
abbrev pub message_with : Message → Opt → Message
message_with message opt = record message { additionals = message.additionals ++ opt_record opt ∷ [] }

-- the response code: four bits of the header, and above them eight of the OPT record
abbrev pub rcode_of : Message → Option Opt → ℕ
rcode_of message None = message.flags % 16
rcode_of message (Some opt) = opt.ext_rcode * 16 + message.flags % 16
