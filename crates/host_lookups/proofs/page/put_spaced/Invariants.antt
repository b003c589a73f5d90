use Rattle.std.proofs.Common.{◌≡◌, ◌++◌, take}
use Rattle.std.specs.List.{flat_map}
use Rattle.host_lookups.specs.Page.{spaced_address}
use Rattle.host_lookups.proofs.page.put_spaced.Given as goal

abbrev pub invariant-loop-address : goal.invariant-loop-address
invariant-loop-address l = l.page.items ≡ l.initial.page.items ++ flat_map spaced_address (take l.address-index l.addresses)
