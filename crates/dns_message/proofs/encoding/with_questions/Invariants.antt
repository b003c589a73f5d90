use Rattle.std.proofs.Common.{◌≡◌, ◌+◌, ◌≤◌, length, take}
use Rattle.std.specs.List.{flat_map}
use Rattle.dns_message.specs.Spelling.{question_bytes}
use Rattle.dns_message.proofs.encoding.with_questions.Given as goal

abbrev pub invariant-loop-question : goal.invariant-loop-question
invariant-loop-question l = (l.total ≤ 65535) × (l.total ≡ l.size + length (flat_map question_bytes (take l.question-index l.questions)))
