-- What a turner does as a pump: its own desk goes on, and that of the channel's owner is left as it is.
use Rattle.std.specs.Prelude.{[], ◌≡◌, ◌≢◌, ◌⊎◌}
use Rattle.channel_model.specs.Known.{Known}
use Rattle.worker_session.specs.Stepping.{StepsOn}
use Rattle.worker_session.specs.Turning.{OwesNone, Turning, pending_of, ready_of}
use Rattle.worker_session.specs.declared.coming.Coming.TheVariants.{UnderWay}

-- the turner went on, and the owner's desk knows what it knew
pub record Pumps (old : Turning) (before : Known) (new : Turning) (behind : Known) : Type 0 where
  pub turner : StepsOn old new
  pub owner : behind ≡ before

-- its turns have come to an end; or nothing was pending or ready where its desk looked, and it owes no servers
abbrev pub HasEnded : Turning → Type 0
HasEnded t = (t.coming ≢ UnderWay) ⊎ ((ready_of t.known ≡ []) × (pending_of t.known ≡ []) × OwesNone t)
