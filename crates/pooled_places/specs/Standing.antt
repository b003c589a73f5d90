-- With whom a channel's tickets are while a pool carries them: in hand, sent, received, or told.
use Rattle.std.specs.List.{AllByRecursion}
use Rattle.std.specs.List.Sorted.{IsPermutation}
use Rattle.std.specs.Prelude.{List, [], map, ◌++◌, ◌∷◌, ◌≡◌, ⊤}
use mathlib.Core.List.{IsPrefix}
use Rattle.chan_types.specs.declared.answer.Answer.{Answer}
use Rattle.delivery_pool.specs.Pools.{tickets_in}
use Rattle.delivery_pool.specs.declared.message.Message.{Message}
use Rattle.shared_channel.specs.Passes.{PassView}
use Rattle.shared_channel.specs.Settling.{IsFateSeen, taken_in}
use Rattle.ticket_queue.specs.Passes.{PassState}
use Rattle.pooled_places.specs.Delivery.{answers_of}
use Rattle.pooled_places.specs.Tickets.{TicketState}

-- the sender's place and its pass of the pool: of the requests that were taken through the place, the tickets of some are in hand, those of some were sent through the pass, and all others were told their answers through the place, which told no other
pub record SenderStands (hand : List Answer) (place : PassView) (pass : PassState (Message TicketState)) : Type 0 where
  pub taken : List Answer
  pub numbers : IsPermutation (taken_in place.own) (map (λ answer. answer.number) taken)
  pub fates : AllByRecursion (IsFateSeen place) taken
  pub shared : IsPermutation taken (hand ++ (answers_of (tickets_in pass.sent) ++ place.calls))
  pub unreceived : tickets_in pass.got ≡ []

-- a worker's place and its pass of the pool: nothing was taken through the place, and the answers that were told through it are those of the tickets which the pass has received; it sent none
pub record WorkerStands (place : PassView) (pass : PassState (Message TicketState)) : Type 0 where
  pub untaken : taken_in place.own ≡ []
  pub told : place.calls ≡ answers_of (tickets_in pass.got)
  pub unsent : tickets_in pass.sent ≡ []

-- nothing was taken or told through a place, which is the same place still
pub record StaysQuiet (old new : PassView) : Type 0 where
  pub same : new ≡ record old { own = new.own; seen = new.seen }
  pub seen : IsPrefix old.seen new.seen
  pub untaken : taken_in new.own ≡ taken_in old.own

-- these are the same passes still, one by one, whatever was made, seen, told and lost through them since
abbrev pub AreStill : List PassView → List PassView → Type 0
AreStill [] [] = ⊤
AreStill [] (new ∷ news) = ⊥
AreStill (old ∷ olds) [] = ⊥
AreStill (old ∷ olds) (new ∷ news) = (new ≡ record old { own = new.own; seen = new.seen; calls = new.calls; lost = new.lost }) × AreStill olds news
