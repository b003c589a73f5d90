use Rattle.std.proofs.Common.{◌≡◌, ◌+◌, ◌≤◌, ◌++◌, map}
use Rattle.std.specs.Prelude.{fold}
use Rattle.std.specs.VecDeque.{deque_len, deque_capacity}
use Rattle.indexmap.specs.IndexSet.{spare}
use Rattle.test_nameserver.specs.Peer.{noted}
use Rattle.test_nameserver.specs.Heard.{keys_of, key_heard, got_heard}
use Rattle.test_nameserver.proofs.hearing.note_all.Given as goal

-- what was noted, with what is left to note, is what all comes to; and there is room for what is left
abbrev pub invariant-loop-one : goal.invariant-loop-one
invariant-loop-one l = record {
  room : deque_len l.left ≤ spare l.asked;
  item_room : deque_len l.items + deque_len l.left ≤ deque_capacity l.items;
  asked : fold noted (keys_of l.asked) (map key_heard l.left.items) ≡ fold noted (keys_of l.initial.asked) (map key_heard l.initial.left.items);
  items : l.items.items ++ map got_heard l.left.items ≡ l.initial.items.items ++ map got_heard l.initial.left.items;
}

abbrev pub decreases-loop-one : goal.decreases-loop-one
decreases-loop-one l = deque_len l.left
