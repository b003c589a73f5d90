use Rattle.channel_table.proofs.Base.{Some, ap, refl, setting_with, ended_seen}
use Rattle.channel_table.proofs.answering.both_answer.Goals as goal

pub returns : goal.returns
returns c =
    rw c.in-Some.is (ap Some (c.in_ok-answer.ensures.both (setting_with c.args.options.now) (ended_seen c.args.left) (ended_seen c.in-Some.right) refl c.in_ok-left.ensures.is c.in_ok-right.ensures.is))
