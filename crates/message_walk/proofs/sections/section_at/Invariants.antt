use Rattle.std.proofs.Common.{◌≡◌, ◌-◌, ◌≤◌, length}
use Rattle.dns_message.specs.Reading.{items_of, record_of}
use Rattle.message_walk.proofs.SectionLemmas.{after, nothing}
use Rattle.message_walk.proofs.sections.section_at.Given as goal

-- what was told so far, with what those records say that are left, is told of all
abbrev pub invariant-loop : goal.invariant-loop
invariant-loop l = record {
  within : l.next ≤ length l.bytes;
  read : after l.wanted l.section (items_of (record_of l.bytes) (l.count - l.counter) l.next) ≡ after l.wanted nothing (items_of (record_of l.bytes) l.count l.at);
}
