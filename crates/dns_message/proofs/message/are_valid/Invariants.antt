use Rattle.std.proofs.Common.{◌≡◌, true, take}
use Rattle.std.specs.List.{list_all}
use Rattle.dns_message.specs.Validity.{is_writable}
use Rattle.dns_message.proofs.message.are_valid.Given as goal

abbrev pub invariant-loop-item : goal.invariant-loop-item
invariant-loop-item l = list_all is_writable (take l.item-index l.records) ≡ true
