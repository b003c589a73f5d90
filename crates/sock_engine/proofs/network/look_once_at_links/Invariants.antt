use mathlib.Core.List.{IsPrefix}
use Rattle.sock_engine.proofs.network.look_once_at_links.Given as goal

abbrev pub invariant-loop-link : goal.invariant-loop-link
invariant-loop-link l = IsPrefix l.fn.inbox l.inbox
