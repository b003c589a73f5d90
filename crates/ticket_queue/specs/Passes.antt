-- What contracts see of a queue and of its passes.
use Rattle.std.specs.Prelude.{List, [], ◌∷◌, length, ℕ, zero, suc, ◌+◌, ◌++◌, ◌-◌, ◌<◌, ◌≡◌}
use Rattle.atomic_table.specs.Seated.{TableId}
use Rattle.atomic_table.specs.declared.badge.Badge.{Badge}
use Rattle.crossbeam_channel.specs.declared.flavors.array.Key.{Key}
use Rattle.ticket_queue.specs.declared.view.View.{View}
use Rattle.ticket_queue.specs.Rule.{AreUnread}

-- a queue: which one it is, by its table and key, and for how many messages it has room
pub record QueueState (M : Type 0) : Type 0 where
  pub table : TableId
  pub key : Badge (Key M)
  pub room : ℕ

-- a pass: its queue, its share, and what it has sent and received, each in order
pub record PassState (M : Type 0) : Type 0 where
  pub table : TableId
  pub key : Badge (Key M)
  pub share : ℕ
  pub sent : List M
  pub got : List M

module _ {M : Type 0} where
  -- the pass with this view
  abbrev pub state_of : TableId → Badge (Key M) → View M → PassState M
  state_of table key view = record { table = table; key = key; share = view.share; sent = view.sent; got = view.got }

  -- the pass is this queue's
  abbrev pub IsAt : QueueState M → PassState M → Type 0
  IsAt queue pass = (pass.table ≡ queue.table) × (pass.key ≡ queue.key)

  -- the pass may send: it has more than half of the shares, so no other pass may
  abbrev pub MaySend : PassState M → Type 0
  MaySend pass = 512 < pass.share

  -- the pass may receive
  abbrev pub MayReceive : PassState M → Type 0
  MayReceive pass = 0 < pass.share

  -- the pass has all shares: no other one is left that has sent or received
  abbrev pub HasAllShares : PassState M → Type 0
  HasAllShares pass = pass.share ≡ 1024

  -- it is still the same pass, whatever it has sent and received since
  abbrev pub IsSamePass : PassState M → PassState M → Type 0
  IsSamePass old new = new ≡ record old { sent = new.sent; got = new.got }

  -- the pass behind a message that it sent, and behind one that it received
  abbrev pub after_send : PassState M → M → PassState M
  after_send pass message = record pass { sent = pass.sent ++ message ∷ [] }

  abbrev pub after_receive : PassState M → M → PassState M
  after_receive pass message = record pass { got = pass.got ++ message ∷ [] }

  -- at one moment of a call the queue had no room, for messages that this pass had sent and nobody had received
  abbrev pub WasFull : QueueState M → PassState M → Type 0
  WasFull queue pass = (messages : List M) × (length messages ≡ queue.room) × AreUnread pass.sent pass.got messages

  -- the left pass, with the right one's share, and with what that has sent and received
  abbrev pub after_join : PassState M → PassState M → PassState M
  after_join left right = record left { share = left.share + right.share; sent = left.sent ++ right.sent; got = left.got ++ right.got }

  -- a pass of this queue with this share, as it is made: it has sent and received nothing
  abbrev pub new_pass : QueueState M → ℕ → PassState M
  new_pass queue share = record { table = queue.table; key = queue.key; share = share; sent = []; got = [] }

  -- so many receivers' passes
  abbrev pub receivers_of : QueueState M → ℕ → List (PassState M)
  receivers_of queue zero = []
  receivers_of queue (suc count) = receivers_of queue count ++ new_pass queue 1 ∷ []

  -- a queue with so much room, and all of its passes: the sender's, and so many receivers'
  pub record IsNewQueue (receivers room : ℕ) (queue : QueueState M) (passes : List (PassState M)) : Type 0 where
    pub room_is : queue.room ≡ room
    pub passes_are : passes ≡ new_pass queue (1024 - receivers) ∷ receivers_of queue receivers
