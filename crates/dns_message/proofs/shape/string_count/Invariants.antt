use Rattle.std.proofs.Common.{◌≡◌, ◌≤◌, ◌-◌, drop, length}
use Rattle.dns_message.specs.Shapes.{strings_of}
use Rattle.dns_message.proofs.StringLemmas.{counted}
use Rattle.dns_message.proofs.shape.string_count.Given as goal

-- the strings so far, and those that are left, are all
abbrev pub invariant-loop-at : goal.invariant-loop-at
invariant-loop-at l = record {
  few : l.count ≤ l.at;
  within : l.at ≤ length l.bytes;
  read : strings_of l.bytes ≡ counted l.count (strings_of (drop l.at l.bytes));
}

abbrev pub decreases-loop-at : goal.decreases-loop-at
decreases-loop-at l = length l.bytes - l.at
