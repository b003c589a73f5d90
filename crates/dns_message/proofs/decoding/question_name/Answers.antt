use Rattle.dns_message.proofs.PointerLemmas.{only_one, only_question}
use Rattle.dns_message.proofs.decoding.question_name.Goals as goal

pub returns-in-len1 : goal.returns-in-len1
returns-in-len1 c =
    let all = only_one c.args.questions.now c.question-item.result c.in-len1.len_at_least c.in-len1.len_below c.question-item.is in
    λ bytes count next read. only_question bytes count next c.question-item.result (rw all at read)
