-- Words of the readers inside this crate: the fault of one list of records, the fault of one rdata, what a reader saw.
use Rattle.std.specs.Prelude.{◌≡◌, ℕ, ◌<◌, List, length, ⊤}
use Rattle.std.specs.Borrow.{Bor}
use Rattle.dns_message.specs.declared.message.Record.{Record}
use Rattle.edns_opt.specs.declared.opt.EdnsItem.{EdnsItem}
use Rattle.edns_opt.specs.declared.fault.EdnsFault.{EdnsFault}
use Rattle.edns_opt.specs.declared.fault.EdnsFault.TheVariants.{DoubleOpt, BadOptions, NoMemory}
use Rattle.edns_opt.specs.Options.{StopsFitting}

-- the fault is that there are two records or more
abbrev pub IsDouble : List Record → EdnsFault → Type 0
IsDouble rrs fault = (fault ≡ DoubleOpt) × (1 < length rrs)

-- the fault has its cause in the rdata; want of memory needs none
abbrev pub HasCauseIn : List ℕ → EdnsFault → Type 0
HasCauseIn rdata DoubleOpt = ⊥
HasCauseIn rdata (BadOptions offset) = StopsFitting rdata offset
HasCauseIn rdata NoMemory = ⊤

-- an option whose content, and the bytes behind it, are borrowed
abbrev pub seen : ℕ × Bor (List ℕ) × Bor (List ℕ) → EdnsItem × List ℕ
seen x = (record { code = x.0; content = x.1.now }, x.2.now)
