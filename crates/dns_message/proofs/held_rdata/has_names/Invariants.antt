use Rattle.std.proofs.Common.{◌≡◌, ◌≤◌, ◌-◌, length, drop}
use Rattle.dns_message.specs.Validity.{behind_names}
use Rattle.dns_message.proofs.held_rdata.has_names.Given as goal

-- what is behind the names that are left is what is behind all
abbrev pub invariant-loop : goal.invariant-loop
invariant-loop l = record {
  within : l.next ≤ length l.rdata;
  read : behind_names l.shape.names (drop l.shape.front l.rdata) ≡ behind_names (l.shape.names - l.counter) (drop l.next l.rdata);
}
