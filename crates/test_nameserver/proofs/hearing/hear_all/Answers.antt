use Rattle.test_nameserver.specs.Query.{asked_by}
use Rattle.test_nameserver.specs.Peer.{key_asked, link_reply}
use Rattle.test_nameserver.proofs.HearingLemmas.{heard_more}
use Rattle.test_nameserver.proofs.hearing.hear_all.Goals as goal

pub loop-message-preserved : goal.loop-message-preserved
loop-message-preserved c = record {
  keys = heard_more (λ message. message.now) asked_by key_asked c.args.messages.now c.loop-message.message-index _ _ _ c.loop-message-test.true c.loop-message.invariant.keys c.in_ok-hear_one.ensures.keys;
  gots = heard_more (λ message. message.now) asked_by (link_reply c.args.zone.now c.args.link) c.args.messages.now c.loop-message.message-index _ _ _ c.loop-message-test.true c.loop-message.invariant.gots c.in_ok-hear_one.ensures.gots;
}
