use Rattle.std.proofs.Common.{◌≡◌, ◌≤◌, fold, length, take}
use Rattle.own_addresses.specs.Choice.{with_first}
use Rattle.own_addresses.proofs.choosing.add_firsts.Given as goal

-- each address so far was taken, if it was the first of its family and scope, and there are still eight at most
abbrev pub invariant-loop-address : goal.invariant-loop-address
invariant-loop-address l = record {
  value : l.own.items ≡ fold with_first l.initial.own.items (take l.address-index l.told);
  few : length l.initial.own.items ≤ 8 → length l.own.items ≤ 8;
}
