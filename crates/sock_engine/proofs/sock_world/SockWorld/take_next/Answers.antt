use Rattle.sock_engine.proofs.StateLemmas.{next_given, state_kept}
use Rattle.sock_engine.proofs.sock_world.SockWorld.take_next.Goals as goal

pub returns-clause-ok : goal.returns-clause-ok
returns-clause-ok g c =
    rw (← c.self.view_is, c.in-Some.is) (next_given _ _ _ c.receive.ensures.later c.receive.ensures.holds c.receive.result c.receive.ensures.ok)

pub returns-clause-err : goal.returns-clause-err
returns-clause-err g c =
    rw (← c.self.view_is, c.in-Some.is) (state_kept _ _ _ c.receive.ensures.later c.receive.ensures.holds c.receive.result c.receive.ensures.err)
