use Rattle.sock_engine.specs.Inbox.{BringsOnly, IsOfServer}
use Rattle.sock_engine.proofs.port.Port.look_for_datagrams.Given as goal

abbrev pub invariant-loop : goal.invariant-loop
invariant-loop l = BringsOnly (IsOfServer l.fn.server) l.fn.inbox l.inbox
