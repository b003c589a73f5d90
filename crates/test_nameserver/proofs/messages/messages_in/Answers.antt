use Rattle.std.proofs.Common.{◌≡◌, map, None, rules}
use Rattle.std.proofs.lemmas.List.{map-append}
use Rattle.test_nameserver.specs.Peer.{first_message}
use Rattle.test_nameserver.proofs.HearingLemmas.{next_message, all_messages}
use Rattle.test_nameserver.proofs.messages.messages_in.Goals as goal

pub loop-message-preserved : goal.loop-message-preserved
loop-message-preserved c =
    let next = next_message (map (λ message. message.now) c.loop-message.messages.items) c.loop-message.rest.now c.args.bytes.now (c.in-Some.message.now, c.in-Some.behind.now) c.in-Some.ensures c.loop-message.invariant.messages c.loop-message.invariant.behind in
    record {
      messages = rw (c.in_ok-push.ensures.items, map-append) next.0;
      behind = next.1;
    }

pub returns : goal.returns
returns c =
    let none : first_message c.loop-message.rest.now ≡ None = search rules in
    all_messages (map (λ message. message.now) c.loop-message.messages.items) c.loop-message.rest.now c.args.bytes.now none c.loop-message.invariant.messages c.loop-message.invariant.behind
