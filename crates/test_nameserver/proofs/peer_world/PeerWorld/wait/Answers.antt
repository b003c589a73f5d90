use Rattle.std.proofs.Common.{refl, rules}
use Rattle.net_world.specs.declared.answers.Waited.TheVariants.{Woken}
use Rattle.net_world.specs.declared.log.WorldCall.TheVariants.{Wait}
use Rattle.test_nameserver.specs.PeerFields.{state_of}
use Rattle.test_nameserver.proofs.LogLemmas.{reached_more}
use Rattle.test_nameserver.proofs.peer_world.PeerWorld.wait.Goals as goal

pub invariant_of-self-then-is_empty : goal.invariant_of-self-then-is_empty
invariant_of-self-then-is_empty c = record {
  read = search rules;
  come = search rules;
  reached = reached_more (Wait c.args.until Woken) (state_of c.self.inside) _ c.self.invariant.reached (record { answer = refl; state = search rules });
}

pub invariant_of-self-else-is_empty : goal.invariant_of-self-else-is_empty
invariant_of-self-else-is_empty c = record {
  read = search rules;
  come = search rules;
  reached = reached_more (Wait c.args.until Woken) (state_of c.self.inside) _ c.self.invariant.reached (record { answer = refl; state = search rules });
}
