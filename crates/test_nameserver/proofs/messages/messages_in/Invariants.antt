use Rattle.std.proofs.Common.{◌≡◌, ◌++◌, length, map}
use Rattle.test_nameserver.specs.Peer.{messages_in}
use Rattle.test_nameserver.proofs.messages.messages_in.Given as goal

-- the messages so far, with those that are left, are all, and what stands behind is the same
abbrev pub invariant-loop-message : goal.invariant-loop-message
invariant-loop-message l = record {
  messages : map (λ message. message.now) l.messages.items ++ (messages_in l.rest).0 ≡ (messages_in l.bytes).0;
  behind : (messages_in l.rest).1 ≡ (messages_in l.bytes).1;
}

abbrev pub decreases-loop-message : goal.decreases-loop-message
decreases-loop-message l = length l.rest
