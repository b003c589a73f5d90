-- Logs of networks that wake in time, and of some that don't.
use Rattle.std.proofs.Common.{◌≡◌, ◌^◌, ◌-◌, [], ◌∷◌, true, false, refl}
use Rattle.std.specs.List.{list_any}
use Rattle.std.specs.Prelude.{filter_map}
use Rattle.net_world.specs.Cause.{is_not_waited}
use Rattle.net_world.specs.declared.answers.Got.TheVariants.{Datagram, Nothing}
use Rattle.net_world.specs.declared.answers.Waited.TheVariants.{Failed as NotWaited, Woken}
use Rattle.net_world.specs.declared.log.WorldCall.TheVariants.{Now, Receive, Wait}
use Rattle.channel_model.specs.Endings.{waited_by}
use Rattle.channel_progress.specs.Waking.{wakes_in_time}

-- the moment has come
pub at_its_moment : wakes_in_time (Now 0 ∷ Receive Nothing ∷ Wait 2000 Woken ∷ Now 2000 ∷ Receive Nothing ∷ []) ≡ true
at_its_moment = refl

-- something came before it
pub something_came : wakes_in_time (Wait 2000 Woken ∷ Now 20 ∷ Receive (Datagram 0 (1 ∷ [])) ∷ Receive Nothing ∷ []) ≡ true
something_came = refl

-- a clock that stands at the greatest number of 64 bits has come to every moment
pub clock_at_its_end : wakes_in_time (Wait (2 ^ 64 - 1) Woken ∷ Now (2 ^ 64 - 1) ∷ Receive Nothing ∷ []) ≡ true
clock_at_its_end = refl

-- nothing stands behind the last wait that could be late
pub last_wait : wakes_in_time (Now 0 ∷ Receive Nothing ∷ Wait 2000 Woken ∷ []) ≡ true
last_wait = refl

-- nothing came, and the moment has not come
pub too_early : wakes_in_time (Wait 2000 Woken ∷ Now 1999 ∷ Receive Nothing ∷ []) ≡ false
too_early = refl

-- what comes behind the first Nothing doesn't count
pub too_late : wakes_in_time (Wait 2000 Woken ∷ Now 1999 ∷ Receive Nothing ∷ Wait 2000 Woken ∷ Now 1999 ∷ Receive (Datagram 0 (1 ∷ [])) ∷ []) ≡ false
too_late = refl

-- of a wait that failed nothing is said, but that it failed
pub failed_wait : wakes_in_time (Wait 2000 NotWaited ∷ Now 1 ∷ Receive Nothing ∷ []) ≡ true
failed_wait = refl

-- the second of these did
pub a_wait_failed : list_any is_not_waited (filter_map waited_by (Wait 2000 Woken ∷ Now 2000 ∷ Receive Nothing ∷ Wait 4000 NotWaited ∷ [])) ≡ true
a_wait_failed = refl
