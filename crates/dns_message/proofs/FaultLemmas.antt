-- Causes of faults.
use Rattle.dns_message.specs.declared.fault.NameFault.{NameFault}
use Rattle.dns_message.specs.declared.fault.NameFault.TheVariants.{EmptyLabel, LongLabel, LongName, BadEscape, NoMemory}
use Rattle.dns_message.specs.Faults.{HasNameCause}

-- what holds anyway is a cause
pub name_cause : (P : Type 0) (fault : NameFault) → P → HasNameCause P fault
name_cause P (EmptyLabel at) p = p
name_cause P (LongLabel at) p = p
name_cause P (LongName at) p = p
name_cause P (BadEscape at) p = p
name_cause P NoMemory p = tt

-- a cause that leads to another
pub name_cause_then : (P Q : Type 0) (fault : NameFault) → (P → Q) → HasNameCause P fault → HasNameCause Q fault
name_cause_then P Q (EmptyLabel at) f p = f p
name_cause_then P Q (LongLabel at) f p = f p
name_cause_then P Q (LongName at) f p = f p
name_cause_then P Q (BadEscape at) f p = f p
name_cause_then P Q NoMemory f p = tt
