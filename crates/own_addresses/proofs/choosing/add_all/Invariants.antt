use Rattle.std.proofs.Common.{◌≡◌, ◌≤◌, fold, length, take}
use Rattle.own_addresses.specs.Choice.{with_address}
use Rattle.own_addresses.proofs.choosing.add_all.Given as goal

-- each address so far was taken, and there are still eight at most
abbrev pub invariant-loop-address : goal.invariant-loop-address
invariant-loop-address l = record {
  value : l.own.items ≡ fold with_address l.initial.own.items (take l.address-index l.told);
  few : length l.initial.own.items ≤ 8 → length l.own.items ≤ 8;
}
