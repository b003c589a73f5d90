-- What is left to be done on a channel.
use Rattle.std.specs.Prelude.{List, [], ℕ, ◌≡◌, ◌≢◌}
use Rattle.channel_model.specs.Completion.{pending, ready}
use Rattle.channel_model.specs.Journal.{past_of}
use Rattle.channel_model.specs.Known.{Known}
use Rattle.event_runner.specs.Running.{HasLooked}
use Rattle.channel_session.specs.declared.left.Left.{Left}
use Rattle.channel_session.specs.declared.left.Left.TheVariants.{Nothing, Pending, Ready}

-- the requests that are pending, and those that are ready, where a desk stands
abbrev pub pending_of : Known → List ℕ
pending_of known = pending known.setting (past_of known.seen)

abbrev pub ready_of : Known → List ℕ
ready_of known = ready known.setting (past_of known.seen)

-- nothing is pending or ready
abbrev pub IsOver : Known → Type 0
IsOver known = (pending_of known ≡ []) × (ready_of known ≡ [])

-- this is left
abbrev pub IsLeft : Left → Known → Type 0
IsLeft Pending known = pending_of known ≢ []
IsLeft Ready known = (pending_of known ≡ []) × (ready_of known ≢ [])
IsLeft Nothing known = IsOver known

-- a desk looked at its channel, where this is left
pub record LooksAt (left : Left) (old new : Known) : Type 0 where
  pub looked : HasLooked old new
  pub is_left : IsLeft left new
