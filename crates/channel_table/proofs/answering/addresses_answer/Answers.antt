use Rattle.channel_table.proofs.Base.{Some, ap, refl, setting_with, ended_seen}
use Rattle.channel_table.proofs.answering.addresses_answer.Goals as goal

pub returns-in_ok-answer-in-V4 : goal.returns-in_ok-answer-in-V4
returns-in_ok-answer-in-V4 c =
    rw c.in-V4.is (ap Some (c.in_ok-answer-in-V4.ensures.left (setting_with c.args.options.now) (ended_seen c.args.left) refl c.in_ok-end-in-V4.ensures.is refl))

pub returns-in_ok-answer-in-V6 : goal.returns-in_ok-answer-in-V6
returns-in_ok-answer-in-V6 c =
    rw c.in-V6.is (ap Some (c.in_ok-answer-in-V6.ensures.right (setting_with c.args.options.now) (ended_seen c.args.left) refl c.in_ok-end-in-V6.ensures.is refl))
