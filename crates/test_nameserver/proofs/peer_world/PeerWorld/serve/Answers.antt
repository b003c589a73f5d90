use Rattle.std.proofs.Common.{refl}
use Rattle.net_world.specs.declared.log.WorldCall.TheVariants.{Serve}
use Rattle.test_nameserver.specs.PeerFields.{state_of}
use Rattle.test_nameserver.proofs.LogLemmas.{reached_more}
use Rattle.test_nameserver.proofs.peer_world.PeerWorld.serve.Goals as goal

pub invariant_of-self-2 : goal.invariant_of-self-2
invariant_of-self-2 c = record {
  read = c.self.invariant.read;
  come = c.self.invariant.come;
  reached = reached_more (Serve c.args.server c.args.address.now) (state_of c.self.inside) _ c.self.invariant.reached (rw c.in_ok-push.ensures.items refl);
}
