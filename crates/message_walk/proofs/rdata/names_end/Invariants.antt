use Rattle.std.proofs.Common.{◌≡◌, ◌-◌, ◌≤◌, length}
use Rattle.dns_message.specs.Reading.{expanded_name, joined_of, or_else}
use Rattle.message_walk.proofs.NamesLemmas.{end_of}
use Rattle.message_walk.proofs.rdata.names_end.Given as goal

-- what is left ends where all do
abbrev pub invariant-loop : goal.invariant-loop
invariant-loop l = record {
  within : l.next ≤ length l.bytes;
  read : end_of (joined_of (λ p. or_else l.bad (expanded_name l.bytes p)) (l.count - l.counter) l.next) ≡ end_of (joined_of (λ p. or_else l.bad (expanded_name l.bytes p)) l.count l.at);
}
