use Rattle.sock_engine.specs.Inbox.{BringsOnly, IsOfServer}
use Rattle.sock_engine.proofs.served.look_at_older.Given as goal

abbrev pub invariant-loop-older : goal.invariant-loop-older
invariant-loop-older l = BringsOnly (IsOfServer l.fn.server) l.fn.inbox l.inbox
