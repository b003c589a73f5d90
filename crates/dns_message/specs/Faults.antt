-- Which faults have a cause: all but want of memory.
use Rattle.dns_message.specs.declared.fault.NameFault.{NameFault}
use Rattle.dns_message.specs.declared.fault.NameFault.TheVariants.{EmptyLabel, LongLabel, LongName, BadEscape, NoMemory}

-- the cause holds, if the fault is not want of memory
abbrev pub HasNameCause : Type 0 → NameFault → Type 0
HasNameCause Cause (EmptyLabel at) = Cause
HasNameCause Cause (LongLabel at) = Cause
HasNameCause Cause (LongName at) = Cause
HasNameCause Cause (BadEscape at) = Cause
HasNameCause Cause NoMemory = Unit {0}
