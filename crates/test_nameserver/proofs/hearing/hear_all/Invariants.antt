use Rattle.std.proofs.Common.{◌≡◌, map, take}
use Rattle.std.specs.Prelude.{filter_map}
use Rattle.test_nameserver.specs.Query.{asked_by}
use Rattle.test_nameserver.specs.Peer.{key_asked, link_reply}
use Rattle.test_nameserver.specs.Heard.{key_heard, got_heard}
use Rattle.test_nameserver.proofs.hearing.hear_all.Given as goal

-- what was heard so far is that of the messages so far
abbrev pub invariant-loop-message : goal.invariant-loop-message
invariant-loop-message l = record {
  keys : map key_heard l.heard.items ≡ map key_asked (filter_map asked_by (map (λ message. message.now) (take l.message-index l.messages)));
  gots : map got_heard l.heard.items ≡ map (link_reply l.zone l.link) (filter_map asked_by (map (λ message. message.now) (take l.message-index l.messages)));
}
