use Rattle.std.proofs.Common.{◌≡◌, ◌++◌, take}
use Rattle.std.specs.List.{flat_map, AllByRecursion}
use Rattle.dns_message.specs.Message.{IsQuestion}
use Rattle.dns_message.specs.Spelling.{question_bytes}
use Rattle.dns_message.proofs.encoding.put_questions.Given as goal

abbrev pub invariant-loop-question : goal.invariant-loop-question
invariant-loop-question l = record {
  put : l.out.items ≡ l.fn.out.items ++ flat_map question_bytes (take l.question-index l.questions);
  typed : AllByRecursion IsQuestion (take l.question-index l.questions);
}
