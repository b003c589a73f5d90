use Rattle.std.proofs.Common.{arith, refl}
use Rattle.net_world.specs.declared.log.WorldCall.TheVariants.{Now}
use Rattle.test_nameserver.specs.PeerFields.{state_of}
use Rattle.test_nameserver.proofs.LogLemmas.{reached_more}
use Rattle.test_nameserver.proofs.peer_world.PeerWorld.now.Goals as goal

pub invariant_of-self-2 : goal.invariant_of-self-2
invariant_of-self-2 c = record {
  read = omega arith;
  come = c.self.invariant.come;
  reached =
      reached_more (Now c.self.inside.clock) (state_of c.self.inside) _ c.self.invariant.reached (record { clock = refl; state = rw c.in_ok-push.ensures.items refl });
}
