use Rattle.parts_bench.proofs.NumbersLemmas.{AreBelow-remove}
use Rattle.parts_bench.proofs.deadlines.channel.drop_answered.Goals as goal

pub returns-then-number-ne0 : goal.returns-then-number-ne0
returns-then-number-ne0 c = λ n below. rw c.drop_key.ensures.taken (AreBelow-remove n _ _ below)
