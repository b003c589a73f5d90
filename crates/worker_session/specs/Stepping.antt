-- What is done between two moments of a run whose turns are made through a desk of their own.
use Rattle.std.specs.List.{list_all}
use Rattle.std.specs.Prelude.{Bool, IsFalse, IsTrue, [], false, is_some, true, ℕ, List, Option, ◌&&◌, ◌<◌, ◌==◌, ◌||◌, ◌≡◌, ◌≢◌, ◌≤◌, ◌⊎◌}
use Rattle.chan_types.specs.declared.journal.Entry.{Entry}
use Rattle.channel_model.specs.Course.{is_of_turn}
use Rattle.channel_model.specs.Journal.{own_entries}
use Rattle.channel_model.specs.Known.{GoesOn}
use Rattle.channel_model.specs.Servers.{servers_set_by}
use Rattle.net_addr.specs.declared.addr.ServerAddr.{ServerAddr}
use Rattle.net_world.specs.Cause.{Rose}
use Rattle.net_world.specs.declared.log.WorldCall.{WorldCall}
use Rattle.worker_session.specs.Standing.{StandsIn}
use Rattle.worker_session.specs.Turning.{Turning, pending_of, ready_of}
use Rattle.worker_session.specs.declared.coming.Coming.{Coming}
use Rattle.worker_session.specs.declared.coming.Coming.TheVariants.{OutOfMemory, Stalled, UnderWay, WaitFault}

-- a turn made the entry or it sets servers, and no callback commanded it
abbrev pub is_of_run : Entry → Bool
is_of_run entry = (is_of_turn entry || is_some (servers_set_by entry.what)) && (entry.by == 0)

-- the desk went on, and made such entries alone; a run that stood at the one moment stands at the other; and a wait failed only where the count of failed waits rose
pub record StepsOn (old new : Turning) : Type 0 where
  pub goes_on : GoesOn old.known new.known
  pub own : IsTrue (list_all is_of_run (own_entries old.known.seat goes_on.since))
  pub stands : (turns : ℕ) (later : Option (List ServerAddr)) (began : Option (List WorldCall)) → StandsIn turns later began old → StandsIn turns later began new
  pub waits : old.wait_faults ≤ new.wait_faults
  pub wait_fault : old.coming ≢ WaitFault → new.coming ≡ WaitFault → Rose old.wait_faults new.wait_faults
  -- what ended it stays
  pub ended : old.coming ≢ UnderWay → new ≡ old

-- more turns may be made
abbrev pub may_go_on : Coming → Bool
may_go_on UnderWay = true
may_go_on WaitFault = false
may_go_on Stalled = false
may_go_on OutOfMemory = false

-- there is more to do: a request is ready, which somebody has to take; or it paused, behind a turn; or it made a turn. Or there is no more: it came to an end, or nothing is pending or ready
abbrev pub Answers : Bool → Turning → Turning → Type 0
Answers true old new = (ready_of new.known ≢ []) ⊎ (IsTrue old.behind_turn × IsFalse new.behind_turn) ⊎ (new.left < old.left)
Answers false old new = IsFalse (may_go_on new.coming) ⊎ ((ready_of new.known ≡ []) × (pending_of new.known ≡ []))
