use Rattle.std.proofs.Common.{◌≡◌, take}
use Rattle.std.specs.List.{flat_map}
use Rattle.host_lookups.specs.Page.{address_line}
use Rattle.host_lookups.proofs.page.address_lines.Given as goal

abbrev pub invariant-loop-address : goal.invariant-loop-address
invariant-loop-address l = l.lines.items ≡ flat_map address_line (take l.address-index l.addresses)
