use Rattle.std.proofs.Common.{◌≡◌, ◌++◌, take}
use Rattle.std.specs.List.{flat_map}
use Rattle.tool_line.specs.Block.{address_line}
use Rattle.tool_line.proofs.block.put_addresses.Given as goal

abbrev pub invariant-loop-address : goal.invariant-loop-address
invariant-loop-address l = l.text ≡ l.initial.text ++ flat_map (address_line l.depth) (take l.address-index l.addresses)
