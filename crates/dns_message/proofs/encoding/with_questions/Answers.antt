use Rattle.std.proofs.Common.{arith}
use Rattle.dns_message.specs.Spelling.{question_bytes}
use Rattle.dns_message.proofs.SpellingLemmas.{question_length, total_more, item_fits}
use Rattle.dns_message.proofs.encoding.with_questions.Goals as goal

pub returns-then-total-gt-MESSAGE_MOST : goal.returns-then-total-gt-MESSAGE_MOST
returns-then-total-gt-MESSAGE_MOST c =
    omega (arith, item_fits question_bytes c.args.questions.now c.loop-question.question-index c.question-item.result c.loop-question-test.true c.question-item.is, question_length c.question-item.result)

pub loop-question-preserved : goal.loop-question-preserved
loop-question-preserved c =
    (omega arith, omega (arith, total_more question_bytes c.args.questions.now c.loop-question.question-index c.question-item.result c.loop-question-test.true c.question-item.is, question_length c.question-item.result))
