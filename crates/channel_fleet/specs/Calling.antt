-- What the calls of a fleet do through a caller's pass.
use Rattle.std.specs.Prelude.{Err, List, Ok, Result, [], length, ℕ, ◌++◌, ◌∷◌, ◌≡◌, ⊤}
use mathlib.Core.List.{IsPrefix}
use Rattle.chan_types.specs.declared.spec.Spec.{Spec}
use Rattle.channel_fleet.specs.Routing.{route_of}
use Rattle.channel_fleet.specs.Views.{BerthView}
use Rattle.channel_fleet.specs.declared.asked.Asked.{Asked}
use Rattle.channel_fleet.specs.declared.shown.Shown.{Shown}
use Rattle.channel_model.specs.Known.{Calls}
use Rattle.channel_model.specs.Meanings.{Accepts, Meaning}
use Rattle.channel_model.specs.declared.answers.Refused.{Refused}
use Rattle.completion_ticket.specs.States.{CallbackState}
use Rattle.shared_channel.specs.Passes.{PassView, desk_of}
use Rattle.shared_channel.specs.Under.{plan_of}
use Rattle.watched_value.specs.Latest.{latest}

-- what is shown of a channel before its helm has published anything
abbrev pub none_shown : Shown
none_shown = record { turns = 0; counts = record { pending = 0; ready = 0; waiting = 0; flying = 0 } }

-- a call with this meaning was made through a pass, on nobody's command, and it is the same pass still
pub record CallsPass (meaning : Meaning) (old new : PassView) : Type 0 where
  pub call : Calls meaning 0 (desk_of old) (desk_of new)
  pub same : new ≡ record old { own = new.own; seen = new.seen }

-- the same through a berth's pass; its reader has seen no more
pub record CallsBerth (meaning : Meaning) (old new : BerthView) : Type 0 where
  pub pass : CallsPass meaning old.pass new.pass
  pub unseen : new.shown ≡ old.shown

-- the berth at one channel went from here to there, and all other berths are as before
pub record ChangesAt (channel : ℕ) (changes : BerthView → BerthView → Type 0) (old new : List BerthView) : Type 0 where
  pub earlier : List BerthView
  pub here : length earlier ≡ channel
  pub from : BerthView
  pub to : BerthView
  pub behind : List BerthView
  pub was : old ≡ earlier ++ from ∷ behind
  pub is : new ≡ earlier ++ to ∷ behind
  pub changed : changes from to

-- ask: the channel to which the request is routed accepts it, and its number there is answered; or that channel refuses it as its own call does, and what was handed in comes back
abbrev pub Asks : ℕ → Spec → CallbackState → Result Asked (Refused CallbackState) → List BerthView → List BerthView → Type 0
Asks channels spec callback (Ok asked) old new =
    (asked.channel ≡ route_of spec channels) × ChangesAt (route_of spec channels) (CallsBerth (Accepts plan_of spec callback (Ok asked.number))) old new
Asks channels spec callback (Err refused) old new = ChangesAt (route_of spec channels) (CallsBerth (Accepts plan_of spec callback (Err refused))) old new

-- one call with an answer was made through each berth, and these are the answers, in order
abbrev pub CallsEach : {A : Type 0} → (A → Meaning) → List A → List BerthView → List BerthView → Type 0
CallsEach means [] [] [] = ⊤
CallsEach means [] [] (new ∷ news) = ⊥
CallsEach means [] (old ∷ olds) news = ⊥
CallsEach means (answer ∷ answers) [] news = ⊥
CallsEach means (answer ∷ answers) (old ∷ olds) [] = ⊥
CallsEach means (answer ∷ answers) (old ∷ olds) (new ∷ news) = CallsBerth (means answer) old new × CallsEach means answers olds news

-- show: the last of what the berth's reader has seen, or zeros; what it has seen goes on, and nothing is done at the channel
pub record ShowsBerth (shown : Shown) (old new : BerthView) : Type 0 where
  pub further : IsPrefix old.shown new.shown
  pub last : shown ≡ latest none_shown new.shown
  pub same : new.pass ≡ old.pass
