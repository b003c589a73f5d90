use Rattle.std.proofs.Common.{◌≡◌, ◌≤◌, fold, length, take}
use Rattle.own_addresses.specs.Choice.{with_global}
use Rattle.own_addresses.proofs.choosing.add_global.Given as goal

-- each address so far was taken, if its scope was global, and there are still eight at most
abbrev pub invariant-loop-address : goal.invariant-loop-address
invariant-loop-address l = record {
  value : l.own.items ≡ fold with_global l.initial.own.items (take l.address-index l.told);
  few : length l.initial.own.items ≤ 8 → length l.own.items ≤ 8;
}
