use Rattle.std.proofs.Common.{◌≡◌, ◌++◌, take}
use Rattle.std.specs.List.{flat_map}
use Rattle.dns_message.specs.NamePrinting.{printed_byte}
use Rattle.dns_message.proofs.name_printing.put_label.Given as goal

abbrev pub invariant-loop-byte : goal.invariant-loop-byte
invariant-loop-byte l = l.text.items ≡ l.fn.text.items ++ flat_map printed_byte (take l.byte-index l.label)
