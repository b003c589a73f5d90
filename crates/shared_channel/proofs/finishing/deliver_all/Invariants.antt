use Rattle.shared_channel.proofs.GoingLemmas.{HasDelivered}
use Rattle.shared_channel.proofs.finishing.deliver_all.Given as goal

-- what was ready so far was delivered
abbrev pub invariant-loop : goal.invariant-loop
invariant-loop g l = HasDelivered l.orders l.fn.place l.place
