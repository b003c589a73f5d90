use Rattle.std.proofs.Common.{deque_len}
use Rattle.shared_session.proofs.AskingLemmas.{IsAsking}
use Rattle.shared_session.proofs.asking.ask_all.Given as goal

-- so far the first of the requests were accepted
abbrev pub invariant-loop-spec : goal.invariant-loop-spec
invariant-loop-spec g l = IsAsking l.fn.requests.items l.requests.items l.fn.pass l.place

abbrev pub decreases-loop-spec : goal.decreases-loop-spec
decreases-loop-spec g l = deque_len l.requests
