use Rattle.std.proofs.Common.{rules}
use Rattle.net_world.specs.declared.log.WorldCall.TheVariants.{Receive}
use Rattle.test_nameserver.specs.PeerFields.{state_of}
use Rattle.test_nameserver.proofs.LogLemmas.{reached_more}
use Rattle.test_nameserver.proofs.peer_world.PeerWorld.receive.Goals as goal

pub invariant_of-self-2 : goal.invariant_of-self-2
invariant_of-self-2 c = record {
  read = c.self.invariant.read;
  come = search rules;
  reached = reached_more (Receive c.in_ok-got.got) (state_of c.self.inside) _ c.self.invariant.reached (record { answer = c.in_ok-got.ensures; state = search rules });
}
