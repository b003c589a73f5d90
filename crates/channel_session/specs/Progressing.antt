-- What a session comes to.
use Rattle.std.specs.Prelude.{Err, List, Ok, Option, Result, Some, [], ℕ, ◌++◌, ◌+◌, ◌∷◌, ◌≡◌, ◌≢◌, ◌⊎◌}
use Rattle.chan_types.specs.declared.script.Script.{Script}
use Rattle.chan_types.specs.declared.ticket.Ticket.{Ticket}
use Rattle.item_list.specs.declared.no_memory.NoMemory.{NoMemory}
use Rattle.net_world.specs.Cause.{Rose}
use Rattle.net_world.specs.Logs.{LogGets}
use Rattle.net_world.specs.declared.answers.Waited.TheVariants.{Failed as NotWaited}
use Rattle.net_world.specs.declared.log.WorldCall.{WorldCall}
use Rattle.net_world.specs.declared.log.WorldCall.TheVariants.{Wait}
use Rattle.channel_model.specs.Known.{Calls, GoesOn, Known}
use Rattle.channel_model.specs.Meanings.{Takes}
use Rattle.channel_model.specs.Names.{GivesName}
use Rattle.event_runner.specs.Running.{HasLooked}
use Rattle.channel_session.specs.Advancing.{Advances, AdvancesAtMost, ComesToRest, ComesToRestAtMost, IsCutOff}
use Rattle.channel_session.specs.Left.{IsOver, pending_of, ready_of}
use Rattle.channel_session.specs.Sitting.{Moment}
use Rattle.channel_session.specs.declared.progress.Progress.{Progress}
use Rattle.channel_session.specs.declared.progress.Progress.TheVariants.{Completed, Disturbed, Over, Stalled, WaitFault}

-- the last call of the desk took this ticket: the first ready request's, with its fate, and with the token that it was accepted with, by its name
pub record HasTaken {T : Type 0} (plan : T → Script) (name : T → ℕ) (ticket : Ticket T) (old new : Known) : Type 0 where
  pub before : Known
  pub goes_on : GoesOn old before
  pub takes : Calls (Takes plan (Some ticket)) 0 before new
  pub named : GivesName name (Some ticket) before.names

-- between two moments at which the desk had no entry to make, others made a request ready where none was, or left none pending where one was
pub record IsDisturbed (old new : Known) : Type 0 where
  pub before : Known
  pub after : Known
  pub from : GoesOn old before
  pub looked : HasLooked before after
  pub then_ : GoesOn after new
  pub changed : ((ready_of before ≡ []) × (ready_of after ≢ [])) ⊎ ((pending_of before ≢ []) × (pending_of after ≡ []))

-- where the desk looked nothing was ready, and where it looked again something is pending or ready
pub record IsLeftOver (old new : Known) : Type 0 where
  pub before : Known
  pub from : GoesOn old before
  pub none_ready : ready_of before ≡ []
  pub looked : HasLooked before new
  pub some : ¬ IsOver new

-- the last call that a log that is told got is a wait that failed
abbrev pub EndsWithWait : Option (List WorldCall) → Option (List WorldCall) → Type 0
EndsWithWait old new = LogGets (λ calls. (earlier : List WorldCall) × (until : ℕ) × (calls ≡ earlier ++ Wait until NotWaited ∷ [])) old new

-- a session came to this behind so many turns, of which so many are left: it took a ticket, and no other; nothing is pending or ready; a wait failed, and is the last call; no turn is left and something else is; or others changed the channel
abbrev pub IsComeBy : {T : Type 0} → (T → Script) → (T → ℕ) → ℕ → ℕ → ℕ → ℕ → Progress T → Moment → Moment → Type 0
IsComeBy plan name made left faults_old faults_new (Completed ticket) old new = Advances made (ticket.call.number ∷ []) old new × HasTaken plan name ticket old.known new.known
IsComeBy plan name made left faults_old faults_new Over old new = Advances made [] old new × IsOver new.known
IsComeBy plan name made left faults_old faults_new WaitFault old new = ComesToRest made old new × EndsWithWait old.log new.log × Rose faults_old faults_new
IsComeBy plan name made left faults_old faults_new Stalled old new = Advances made [] old new × (left ≡ 0) × IsLeftOver old.known new.known
IsComeBy plan name made left faults_old faults_new Disturbed old new = (Advances made [] old new ⊎ ComesToRest made old new) × IsDisturbed old.known new.known

-- the same of an answer, where so many turns were to be made and so many are left: those that were made aren't; and for want of memory it may have been cut short, at the latest in the last of them
abbrev pub ComesBy : {T : Type 0} → (T → Script) → (T → ℕ) → ℕ → ℕ → ℕ → ℕ → Result (Progress T) NoMemory → Moment → Moment → Type 0
ComesBy plan name most left faults_old faults_new (Ok progress) old new = (made : ℕ) × (made + left ≡ most) × IsComeBy plan name made left faults_old faults_new progress old new
ComesBy plan name most left faults_old faults_new (Err fault) old new = IsCutOff most old new

-- a session came to this, behind at most so many turns: it took a ticket, and no other; nothing is pending or ready; a wait failed, and is the last call; all turns were made and something is left; or others changed the channel
abbrev pub IsCome : {T : Type 0} → (T → Script) → (T → ℕ) → ℕ → ℕ → ℕ → Progress T → Moment → Moment → Type 0
IsCome plan name most faults_old faults_new (Completed ticket) old new = AdvancesAtMost most (ticket.call.number ∷ []) old new × HasTaken plan name ticket old.known new.known
IsCome plan name most faults_old faults_new Over old new = AdvancesAtMost most [] old new × IsOver new.known
IsCome plan name most faults_old faults_new WaitFault old new = ComesToRestAtMost most old new × EndsWithWait old.log new.log × Rose faults_old faults_new
IsCome plan name most faults_old faults_new Stalled old new = Advances most [] old new × IsLeftOver old.known new.known
IsCome plan name most faults_old faults_new Disturbed old new = (AdvancesAtMost most [] old new ⊎ ComesToRestAtMost most old new) × IsDisturbed old.known new.known

-- the same of an answer, and for want of memory it may have been cut short
abbrev pub ComesTo : {T : Type 0} → (T → Script) → (T → ℕ) → ℕ → ℕ → ℕ → Result (Progress T) NoMemory → Moment → Moment → Type 0
ComesTo plan name most faults_old faults_new (Ok progress) old new = IsCome plan name most faults_old faults_new progress old new
ComesTo plan name most faults_old faults_new (Err fault) old new = IsCutOff most old new
