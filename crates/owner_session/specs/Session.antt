-- How requests are brought to their end: they are accepted, turns are made with waits between them, and what completes is delivered.
use Rattle.std.specs.List.{AllByRecursion, list_all}
use Rattle.std.specs.Prelude.{Bool, Err, IsFalse, IsTrue, List, None, Ok, Option, Result, Some, [], is_some, length, map, min, ℕ, ◌&&◌, ◌++◌, ◌-◌, ◌==◌, ◌^◌, ◌∷◌, ◌≡◌, ◌≤◌, ◌⊎◌}
use mathlib.Core.List.{IsPrefix}
use Rattle.item_list.specs.declared.no_memory.NoMemory.{NoMemory}
use Rattle.net_addr.specs.declared.addr.ServerAddr.{ServerAddr}
use Rattle.net_world.specs.declared.log.WorldCall.{WorldCall}
use Rattle.chan_types.specs.declared.answer.Answer.{Answer}
use Rattle.chan_types.specs.declared.journal.Entry.{Entry}
use Rattle.chan_types.specs.declared.journal.What.TheVariants.{Servers}
use Rattle.chan_types.specs.declared.orders.Orders.{Orders}
use Rattle.channel_model.specs.Commands.{Asking, ObeysOrders, accepted_for}
use Rattle.channel_model.specs.Completion.{fate, pending, taken}
use Rattle.channel_model.specs.Course.{IsCourse, IsCourseSoFar}
use Rattle.channel_model.specs.Endings.{IsStalledBehind}
use Rattle.channel_model.specs.Journal.{Past, accepted_by, is_destroyed, past_of}
use Rattle.channel_model.specs.Lawful.{IsLawful}
use Rattle.channel_model.specs.Names.{NamesStay}
use Rattle.channel_model.specs.Servers.{keys_for}
use Rattle.channel_model.specs.Setting.{Setting}
use Rattle.channel_progress.specs.Prompted.{unprompted_in}
use Rattle.channel_progress.specs.Waking.{NoWaitFailed}
use Rattle.channel_table.specs.Calling.{Owned, known_by_owner}
use Rattle.event_runner.specs.Running.{Running}
use Rattle.event_runner.specs.State.{IsTurnOwner}
use Rattle.event_runner.specs.UnderWay.{RunsSince, rested}
use Rattle.net_world.specs.Logs.{LogGets}
use Rattle.owner_session.specs.Asked.{AreSilent}
use Rattle.owner_session.specs.Delivering.{IsIdle}
use Rattle.owner_session.specs.Kinds.{has_servers, is_of_session, is_ruled}
use Rattle.owner_session.specs.declared.caller.Caller.{Caller}
use Rattle.owner_laws.specs.Sessions.{BeginsPending, BeginsSoFar, EndsWithFailedWait, FirstTurn, longest_slice}
use Rattle.run_end.specs.Left.{LeavesPending}
use Rattle.run_end.specs.declared.loop_end.LoopEnd.{LoopEnd}
use Rattle.run_end.specs.declared.loop_end.LoopEnd.TheVariants.{Completed, Stalled, WaitFault}

-- nothing has happened, and nothing was called or lost
pub record IsNew {B : Type 0} (caller : Caller B) : Type 0 where
  pub idle : IsIdle caller
  pub empty : caller.alone.seen ≡ []
  pub uncalled : caller.calls ≡ []
  pub unlost : caller.lost ≡ 0

-- ---- requests that are accepted

-- all of these requests were accepted, in order; where memory was wanting the first of them
abbrev pub HasAccepted : {T : Type 0} → List Asking → Result T NoMemory → List Asking → Type 0
HasAccepted askings (Ok done) accepted = accepted ≡ askings
HasAccepted askings (Err fault) accepted = IsPrefix accepted askings

-- the entry accepts a request on nobody's command
abbrev pub is_asking : Entry → Bool
is_asking entry = (entry.seat == 0) && (entry.by == 0) && is_some (accepted_by entry.what)

-- requests were accepted on nobody's command, and nothing else was done
pub record AcceptsAll (askings : List Asking) (result : Result (Unit {0}) NoMemory) (old new : Owned) : Type 0 where
  pub since : List Entry
  pub seen : new.seen ≡ old.seen ++ since
  pub setting : new.setting ≡ old.setting
  pub voice : new.voice ≡ old.voice
  pub lawful : IsLawful old.setting old.seen → IsLawful new.setting new.seen
  pub names : NamesStay since (Some old.names) (Some new.names)
  pub accepts_only : IsTrue (list_all is_asking since)
  pub accepts_are : HasAccepted askings result (accepted_for 0 since)

-- the requests on nobody's command were accepted before anything else was done
pub record AsksFirst (journal : List Entry) : Type 0 where
  pub asking : List Entry
  pub behind : List Entry
  pub parts : journal ≡ asking ++ behind
  pub asks_only : IsTrue (list_all is_asking asking)
  pub none_behind : accepted_for 0 behind ≡ []

-- ---- servers that are set

-- the entry that sets these servers, behind a past
abbrev pub servers_entry : Setting → List ServerAddr → Past → Entry
servers_entry setting addresses past = record { seat = 0; by = 0; what = Servers (keys_for setting addresses past) }

-- these servers were set by an entry on nobody's command, unless the channel was destroyed
abbrev pub SetsThese : List ServerAddr → Owned → Owned → Type 0
SetsThese addresses old new =
    (IsFalse (is_destroyed (past_of old.seen)) × (new ≡ record old { seen = old.seen ++ servers_entry old.setting addresses (past_of old.seen) ∷ [] })
    × IsLawful new.setting new.seen)
    ⊎ (IsTrue (is_destroyed (past_of old.seen)) × (new ≡ old))

-- the same, where there are servers; where memory was wanting nothing was done
abbrev pub SetsLater : Option (List ServerAddr) → Result (Unit {0}) NoMemory → Owned → Owned → Type 0
SetsLater None result old new = new ≡ old
SetsLater (Some addresses) (Ok done) old new = SetsThese addresses old new
SetsLater (Some addresses) (Err fault) old new = new ≡ old

-- no entry sets servers but one on nobody's command, which sets these
pub record SetsOnce (setting : Setting) (addresses : List ServerAddr) (journal : List Entry) : Type 0 where
  pub earlier : List Entry
  pub behind : List Entry
  pub parts : journal ≡ earlier ++ servers_entry setting addresses (past_of earlier) ∷ behind
  pub none_earlier : IsFalse (has_servers earlier)
  pub none_behind : IsFalse (has_servers behind)

-- servers are set at most once, and then these
abbrev pub SetsAtMost : Setting → Option (List ServerAddr) → List Entry → Type 0
SetsAtMost setting None journal = IsFalse (has_servers journal)
SetsAtMost setting (Some addresses) journal = IsFalse (has_servers journal) ⊎ SetsOnce setting addresses journal

-- these servers were set behind the first turn and before the second
pub record AreSetBehind (setting : Setting) (addresses : List ServerAddr) (journal : List Entry) (calls : List WorldCall) : Type 0 where
  pub sets : SetsOnce setting addresses journal
  pub behind_first : FirstTurn setting sets.earlier calls

-- none were set, since the channel was destroyed before that
pub record AreNotSet (setting : Setting) (journal : List Entry) (calls : List WorldCall) : Type 0 where
  pub earlier : List Entry
  pub behind : List Entry
  pub parts : journal ≡ earlier ++ behind
  pub behind_first : FirstTurn setting earlier calls
  pub destroyed : IsTrue (is_destroyed (past_of earlier))
  pub none_set : IsFalse (has_servers journal)

-- in a run of so many turns these servers, if there are some, were set behind the first turn and before the second, or the channel was destroyed before that; and no others
abbrev pub SetsBehindFirst : Setting → Option (List ServerAddr) → ℕ → List Entry → List WorldCall → Type 0
SetsBehindFirst setting None made journal calls = IsFalse (has_servers journal)
SetsBehindFirst setting (Some addresses) made journal calls =
    ((made ≡ 0) × IsFalse (has_servers journal)) ⊎ AreSetBehind setting addresses journal calls ⊎ AreNotSet setting journal calls

-- the same of a run that wanted memory: where it made no second turn, it may have set none
abbrev pub SetsSoFar : Setting → Option (List ServerAddr) → ℕ → List Entry → List WorldCall → Type 0
SetsSoFar setting later made journal calls = SetsBehindFirst setting later made journal calls ⊎ ((made ≤ 1) × IsFalse (has_servers journal))

-- ---- turns

-- how many requests are pending
pub record CountsPending (count : ℕ) (old new : Owned) : Type 0 where
  pub same : new ≡ old
  pub count_is : count ≡ length (pending old.setting (past_of old.seen))

-- how the turns ended, as it shows: with a wait that failed, or all turns were made with a request pending behind the last, and between turns no request was accepted unprompted; and no other wait failed
abbrev pub ShowsEnd : ℕ → LoopEnd → Owned → ℕ → List WorldCall → Type 0
ShowsEnd turns Completed channel made calls = NoWaitFailed calls
ShowsEnd turns WaitFault channel made calls = EndsWithFailedWait calls
ShowsEnd turns Stalled channel made calls =
    (made ≡ turns) × (stalled : IsStalledBehind channel.setting 0 longest_slice turns channel.seen calls)
    × (unprompted_in channel.setting stalled.course.rounds ≡ 0) × NoWaitFailed calls

-- journal and calls fall into at most so many turns, with waits between them, and the first begins where a request is pending; where memory was wanting the last turn may have been cut short, or the telling of the servers, and no wait failed
abbrev pub FallsIntoTurns : Option (List ServerAddr) → ℕ → Result LoopEnd NoMemory → Owned → List WorldCall → Type 0
FallsIntoTurns later turns (Ok end) channel calls =
    (made : ℕ) × (made ≤ turns) × IsCourse channel.setting 0 longest_slice channel.seen calls made 0
    × SetsBehindFirst channel.setting later made channel.seen calls × (1 ≤ made → BeginsPending channel.setting channel.seen calls) × ShowsEnd turns end channel made calls
FallsIntoTurns later turns (Err fault) channel calls =
    (made : ℕ) × (made ≤ turns) × IsCourseSoFar channel.setting 0 longest_slice channel.seen calls made 0
    × SetsSoFar channel.setting later made channel.seen calls × (1 ≤ made → BeginsSoFar channel.setting channel.seen calls) × NoWaitFailed calls

-- what is said of a channel between two calls of its owner, with the answers that were told, and so many requests of callbacks that were lost as far as a count goes: the journal is lawful, callbacks were obeyed, and each request that was taken was called, in this order, with its fate
pub record HasObeyed (setting : Setting) (journal : List Entry) (orders : Orders) (calls : List Answer) (count : ℕ) : Type 0 where
  pub lawful : IsLawful setting journal
  pub ruled : IsTrue (list_all is_ruled journal)
  pub total : ℕ
  pub total_is : min count (2 ^ 64 - 1) ≡ min total (2 ^ 64 - 1)
  pub obeyed : ObeysOrders setting journal 1 orders (length journal) total
  pub called : map (λ answer. answer.number) calls ≡ taken (past_of journal)
  pub fates : AllByRecursion (λ answer. fate setting answer.number (past_of journal) ≡ Some answer) calls
  -- callbacks that command nothing have made no entry, and lost no request
  pub silent : AreSilent (accepted_for 0 journal) → IsTrue (list_all (λ entry. entry.by == 0) journal) × (total ≡ 0)

-- the same of the owner
abbrev pub IsKept : {B : Type 0} → Caller B → Type 0
IsKept caller = IsIdle caller × HasObeyed caller.alone.setting caller.alone.seen caller.hand.orders caller.calls caller.lost

-- requests were brought to their end, or as far as turns, waits and memory served
pub record IsSession {B : Type 0} (askings : List Asking) (later : Option (List ServerAddr)) (turns : ℕ) (result : Result LoopEnd NoMemory) (old new : Caller B) (log_old log_new : Option (List WorldCall)) : Type 0 where
  pub setting : new.alone.setting ≡ old.alone.setting
  pub hand : new.hand ≡ old.hand
  pub kept : IsKept new
  pub unclosed : IsTrue (list_all is_of_session new.alone.seen)
  pub asked : HasAccepted askings result (accepted_for 0 new.alone.seen)
  pub asked_first : AsksFirst new.alone.seen
  pub left : LeavesPending new.alone.setting result (past_of new.alone.seen)
  pub sets : SetsAtMost new.alone.setting later new.alone.seen
  -- where the network tells its log
  pub told : LogGets (FallsIntoTurns later turns result new.alone) log_old log_new

-- turns were made, and what completed was delivered: from wherever the run began before its first turn, the log falls into them
pub record MakesTurns {B : Type 0} (later : Option (List ServerAddr)) (turns : ℕ) (result : Result LoopEnd NoMemory) (old new : Caller B) (runner : Running) (log_old log_new : Option (List WorldCall)) : Type 0 where
  pub setting : new.alone.setting ≡ old.alone.setting
  pub hand : new.hand ≡ old.hand
  pub kept : IsKept old → IsKept new
  pub unclosed : IsTrue (list_all is_of_session old.alone.seen) → IsTrue (list_all is_of_session new.alone.seen)
  pub since : List Entry
  pub seen : new.alone.seen ≡ old.alone.seen ++ since
  pub asked_none : accepted_for 0 since ≡ []
  pub left : LeavesPending new.alone.setting result (past_of new.alone.seen)
  pub sets : IsFalse (has_servers old.alone.seen) → SetsAtMost new.alone.setting later new.alone.seen
  pub told : (log : Option (List WorldCall)) → RunsSince longest_slice 0 0 rested (known_by_owner old.alone) runner log log_old → IsFalse (has_servers old.alone.seen) →
      LogGets (λ calls. IsTurnOwner (known_by_owner new.alone) → FallsIntoTurns later turns result new.alone calls) log log_new
