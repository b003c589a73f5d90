use Rattle.std.proofs.Common.{ap, length, sym, ◌∙◌}
use Rattle.std.specs.Prelude.{find}
use Rattle.net_world.specs.declared.answers.Wrote.TheVariants.{Count}
use Rattle.net_world.specs.declared.log.WorldCall.TheVariants.{Write}
use Rattle.test_nameserver.specs.PeerCalls.{has_number}
use Rattle.test_nameserver.specs.PeerFields.{state_of}
use Rattle.test_nameserver.proofs.LogLemmas.{reached_more}
use Rattle.test_nameserver.proofs.PeerLemmas.{written_aside}
use Rattle.test_nameserver.proofs.peer_world.PeerWorld.write.Goals as goal

-- a link that isn't open
pub invariant_of-self-in_ok-push-in-None : goal.invariant_of-self-in_ok-push-in-None
invariant_of-self-in_ok-push-in-None c = record {
  read = c.self.invariant.read;
  come = c.self.invariant.come;
  reached =
      reached_more (Write c.args.link c.args.bytes.now (Count (length c.args.bytes.now))) (state_of c.self.inside) _ c.self.invariant.reached
      (written_aside c.args.link c.args.bytes.now (find (has_number c.args.link) c.deref.result.now) (state_of c.self.inside) c.in_ok-written_call-in-None.field-0 c.push.new.self.items (ap (find (has_number c.args.link)) c.deref.ensures.value)
      (sym c.in_ok-unread.ensures ∙ c.in-None.is) c.in_ok-written_call-in-None.ensures c.in_ok-push-in-None.ensures.items);
}
