use Rattle.std.proofs.Common.{map, ap}
use Rattle.net_world.specs.declared.answers.Sent.TheVariants.{Sent as WasSent}
use Rattle.net_world.specs.declared.log.WorldCall.TheVariants.{Send}
use Rattle.test_nameserver.specs.Heard.{keys_of}
use Rattle.test_nameserver.specs.PeerFields.{state_of}
use Rattle.test_nameserver.proofs.LogLemmas.{reached_more}
use Rattle.test_nameserver.proofs.PeerLemmas.{datagram_sent, reply_may_come}
use Rattle.test_nameserver.proofs.peer_world.PeerWorld.send_query.Goals as goal

pub invariant_of-self-2 : goal.invariant_of-self-2
invariant_of-self-2 c = record {
  read = c.self.invariant.read;
  come = reply_may_come _ _ _ _ _ c.reserve.ensures.items c.note_datagram.ensures.items tt c.self.invariant.come;
  reached =
      reached_more (Send c.args.server c.args.bytes.now WasSent) (state_of c.self.inside) _ c.self.invariant.reached
      (datagram_sent (state_of c.self.inside) c.args.server c.args.bytes.now c.args.query.now c.in_ok-call.call (keys_of c.reserve-2.new.self) c.in_ok-key.key.items c.reserve.new.self.items c.in_ok-reply.reply (keys_of c.note_datagram.new.asked) c.note_datagram.new.items.items c.push.new.self.items
      c.requires c.in_ok-call.ensures (ap (map (λ key. key.items)) c.reserve-2.ensures.keys) c.in_ok-key.ensures c.reserve.ensures.items c.in_ok-reply.ensures.value
      c.note_datagram.ensures.asked c.note_datagram.ensures.items c.in_ok-push.ensures.items);
}

pub returns-clause-ok : goal.returns-clause-ok
returns-clause-ok c =
    rw (← c.self.view_is) (datagram_sent (state_of c.self.inside) c.args.server c.args.bytes.now c.args.query.now c.in_ok-call.call (keys_of c.reserve-2.new.self) c.in_ok-key.key.items c.reserve.new.self.items c.in_ok-reply.reply (keys_of c.note_datagram.new.asked) c.note_datagram.new.items.items c.push.new.self.items
    c.requires c.in_ok-call.ensures (ap (map (λ key. key.items)) c.reserve-2.ensures.keys) c.in_ok-key.ensures c.reserve.ensures.items c.in_ok-reply.ensures.value
    c.note_datagram.ensures.asked c.note_datagram.ensures.items c.in_ok-push.ensures.items)
