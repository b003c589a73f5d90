-- The same computed: the options that bytes are, and what a message's OPT record says.
use Rattle.std.specs.Prelude.{◌≡◌, ℕ, zero, suc, ◌+◌, ◌/◌, ◌%◌, ◌^◌, ◌==◌, nat_lt, if◌then◌else◌, List, [], ◌∷◌, length, take, drop, Option, Some, None, Result, Ok, Err, ⊤}
use Rattle.std.specs.Result.{result_map_both}
use Rattle.std.specs.Int.{w16, from_be_bytes}
use Rattle.dns_message.specs.declared.message.Message.{Message}
use Rattle.dns_message.specs.declared.message.Record.{Record}
use Rattle.edns_opt.specs.declared.opt.EdnsItem.{EdnsItem}
use Rattle.edns_opt.specs.declared.opt.Opt.{Opt}
use Rattle.edns_opt.specs.declared.fault.EdnsFault.{EdnsFault}
use Rattle.edns_opt.specs.declared.fault.EdnsFault.TheVariants.{DoubleOpt, BadOptions, NoMemory}
use Rattle.edns_opt.specs.Options.{option_spelling}
use Rattle.edns_opt.specs.Opt.{opt_records}

-- an option with so many bytes of content, and the bytes behind it, where there are so many
abbrev pub option_with : ℕ → ℕ → List ℕ → Option (EdnsItem × List ℕ)
option_with code len bytes =
    if nat_lt (length bytes) len then None else Some (record { code = code; content = take len bytes }, drop len bytes)

-- the option at the front of the bytes and the bytes behind it, where a whole one stands there
abbrev pub first_option : List ℕ → Option (EdnsItem × List ℕ)
first_option [] = None
first_option (a ∷ []) = None
first_option (a ∷ b ∷ []) = None
first_option (a ∷ b ∷ c ∷ []) = None
first_option (a ∷ b ∷ c ∷ d ∷ bytes) = option_with (from_be_bytes w16 (a ∷ b ∷ [])) (from_be_bytes w16 (c ∷ d ∷ [])) bytes

-- the option and those that were read behind it, or how far behind its front reading stopped
abbrev pub followed_by : EdnsItem → Result (List EdnsItem) ℕ → Result (List EdnsItem) ℕ
followed_by item read = result_map_both (λ items. item ∷ items) (λ offset. length (option_spelling item) + offset) read

-- the first option and what is read behind it; without one, reading stops here
abbrev pub then_read : (List ℕ → Result (List EdnsItem) ℕ) → Option (EdnsItem × List ℕ) → Result (List EdnsItem) ℕ
then_read read None = Err 0
then_read read (Some first) = followed_by first.0 (read first.1)

-- the options that the bytes are, or the offset at which they stop being options, in so many steps at most
abbrev pub options_in : ℕ → List ℕ → Result (List EdnsItem) ℕ
options_in zero [] = Ok []
options_in zero (a ∷ bytes) = Err 0
options_in (suc steps) [] = Ok []
options_in (suc steps) (a ∷ bytes) = then_read (options_in steps) (first_option (a ∷ bytes))

-- the options that the bytes are, or the fault; as many steps as bytes are enough
abbrev pub options_of : List ℕ → Result (List EdnsItem) EdnsFault
options_of bytes = result_map_both (λ items. items) BadOptions (options_in (length bytes) bytes)

-- what an OPT record of this class, ttl and options says
abbrev pub opt_with : ℕ → ℕ → List EdnsItem → Opt
opt_with class ttl items = record {
  size = class;
  ext_rcode = ttl / 2 ^ 24;
  version = ttl / 2 ^ 16 % 2 ^ 8;
  do_bit = ttl / 2 ^ 15 % 2 == 1;
  options = items;
}

-- what an OPT record says, or the fault of its rdata
abbrev pub said_by : Record → Result Opt EdnsFault
said_by rr = result_map_both (opt_with rr.class rr.ttl) (λ fault. fault) (options_of rr.rdata)

-- what the one OPT record says, if there is one
abbrev pub said_once : List Record → Result (Option Opt) EdnsFault
said_once [] = Ok None
said_once (rr ∷ []) = result_map_both Some (λ fault. fault) (said_by rr)
said_once (rr ∷ other ∷ rrs) = Err DoubleOpt

-- what a message's OPT record says: nothing without one, a fault with two or with rdata that isn't options
abbrev pub opt_of : Message → Result (Option Opt) EdnsFault
opt_of message = said_once (opt_records message)

-- reading ends with this fault; want of memory may come in place of any end
abbrev pub EndsWith : {X : Type 0} → EdnsFault → Result X EdnsFault → Type 0
EndsWith DoubleOpt read = read ≡ Err DoubleOpt
EndsWith (BadOptions offset) read = read ≡ Err (BadOptions offset)
EndsWith NoMemory read = ⊤

-- a call gave what reading gives, unless memory ran out
abbrev pub Gives : {X : Type 0} → Result X EdnsFault → Result X EdnsFault → Type 0
Gives (Ok x) read = read ≡ Ok x
Gives (Err fault) read = EndsWith fault read
