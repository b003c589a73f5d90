use Rattle.std.proofs.Common.{refl}
use Rattle.dns_message.specs.Reading.{question_of}
use Rattle.dns_message.specs.declared.message.Question.{Question}
use Rattle.message_walk.proofs.questions.question_is.Goals as goal

pub returns-clause-read : goal.returns-clause-read
unfolding question_of
returns-clause-read c =
    let name = c.in_ok-same.ensures.read in
    let question : Question = record { name = name.0; kind = c.u16_in-kind.result; class = c.u16_in-class.result } in (
      question,
      rw (name.1, c.in_ok-fixed.ensures.read, ← c.u16_in-kind.ensures, ← c.u16_in-class.ensures) refl,
      rw name.2 refl,
    )
