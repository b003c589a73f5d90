use Rattle.parts_bench.proofs.NumbersLemmas.{AreBelow-remove}
use Rattle.parts_bench.proofs.deadlines.channel.drop_due.Goals as goal

pub returns-then-due-now : goal.returns-then-due-now
returns-then-due-now c = λ n below. rw c.drop_key.ensures.taken (AreBelow-remove n _ _ below)
