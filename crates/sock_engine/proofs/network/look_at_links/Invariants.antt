use mathlib.Core.List.{IsPrefix}
use Rattle.sock_engine.proofs.network.look_at_links.Given as goal

abbrev pub invariant-loop : goal.invariant-loop
invariant-loop l = IsPrefix l.fn.inbox l.inbox
