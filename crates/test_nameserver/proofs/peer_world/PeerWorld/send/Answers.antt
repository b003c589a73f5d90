use Rattle.std.proofs.Common.{sym, ◌∙◌}
use Rattle.net_world.specs.declared.answers.Sent.TheVariants.{Sent as WasSent}
use Rattle.net_world.specs.declared.log.WorldCall.TheVariants.{Send}
use Rattle.test_nameserver.specs.PeerFields.{state_of}
use Rattle.test_nameserver.proofs.LogLemmas.{reached_more}
use Rattle.test_nameserver.proofs.PeerLemmas.{sent_aside}
use Rattle.test_nameserver.proofs.peer_world.PeerWorld.send.Goals as goal

-- bytes that are no query
pub invariant_of-self-in_ok-push-in-None : goal.invariant_of-self-in_ok-push-in-None
invariant_of-self-in_ok-push-in-None c = record {
  read = c.self.invariant.read;
  come = c.self.invariant.come;
  reached =
      reached_more (Send c.args.server c.args.bytes.now WasSent) (state_of c.self.inside) _ c.self.invariant.reached
      (sent_aside (state_of c.self.inside) c.args.server c.args.bytes.now c.in_ok-sent_call-in-None.field-0 c.push.new.self.items
      (sym c.in_ok-query.ensures ∙ c.in-None.is) c.in_ok-sent_call-in-None.ensures c.in_ok-push-in-None.ensures.items);
}
