use Rattle.std.proofs.Common.{refl, rules}
use Rattle.net_world.specs.declared.answers.Sent.TheVariants.{Sent as WasSent}
use Rattle.net_world.specs.declared.log.WorldCall.TheVariants.{Connect}
use Rattle.test_nameserver.specs.PeerFields.{state_of}
use Rattle.test_nameserver.proofs.LogLemmas.{reached_more}
use Rattle.test_nameserver.proofs.peer_world.PeerWorld.connect.Goals as goal

pub invariant_of-self-2 : goal.invariant_of-self-2
invariant_of-self-2 c = record {
  read = c.self.invariant.read;
  come = c.self.invariant.come;
  reached = reached_more (Connect c.args.server c.args.link WasSent) (state_of c.self.inside) _ c.self.invariant.reached (record { answer = refl; state = search rules });
}
