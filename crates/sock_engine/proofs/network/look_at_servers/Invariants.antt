use mathlib.Core.List.{IsPrefix}
use Rattle.sock_engine.proofs.network.look_at_servers.Given as goal

abbrev pub invariant-loop-served : goal.invariant-loop-served
invariant-loop-served l = IsPrefix l.fn.inbox l.inbox
