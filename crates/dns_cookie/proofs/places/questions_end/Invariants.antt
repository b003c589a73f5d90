use Rattle.std.proofs.Common.{◌≡◌, ◌-◌, ◌≤◌, List, length}
use Rattle.dns_message.proofs.Theorems.{prefixed}
use Rattle.dns_message.specs.Reading.{items_of, question_of}
use Rattle.dns_message.specs.declared.message.Question.{Question}
use Rattle.dns_cookie.proofs.places.questions_end.Given as goal

-- the questions so far, with those that are left, are all
abbrev pub invariant-loop : goal.invariant-loop
invariant-loop l = record {
  within : l.next ≤ length l.bytes;
  read : (front : List Question) × (prefixed front (items_of (question_of l.bytes) (l.count - l.counter) l.next) ≡ items_of (question_of l.bytes) l.count 12);
}
