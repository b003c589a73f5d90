use Rattle.std.proofs.Common.{rules}
use Rattle.net_world.specs.declared.log.WorldCall.TheVariants.{Word}
use Rattle.test_nameserver.specs.PeerFields.{state_of}
use Rattle.test_nameserver.proofs.LogLemmas.{reached_more}
use Rattle.test_nameserver.proofs.peer_world.PeerWorld.word.Goals as goal

pub invariant_of-self-2 : goal.invariant_of-self-2
invariant_of-self-2 c = record {
  read = c.self.invariant.read;
  come = c.self.invariant.come;
  reached = reached_more (Word c.word_number-word.result) (state_of c.self.inside) _ c.self.invariant.reached (record { next = c.word_number-word.ensures; state = search rules });
}
