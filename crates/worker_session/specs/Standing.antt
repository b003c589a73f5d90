-- Where a run stands whose turns are made through a desk of their own, since it began with this log of its network.
use Rattle.std.specs.Prelude.{Bool, IsFalse, List, None, Option, Some, [], false, true, ℕ, ⊤, ◌+◌, ◌≡◌, ◌≢◌, ◌≤◌}
use Rattle.channel_progress.specs.Waking.{NoWaitFailed}
use Rattle.channel_session.specs.Sitting.{reach_of}
use Rattle.event_runner.specs.State.{IsTurnOwner}
use Rattle.event_runner.specs.UnderWay.{RanSince, RunsSince, rested}
use Rattle.net_addr.specs.declared.addr.ServerAddr.{ServerAddr}
use Rattle.net_world.specs.Logs.{LogGets}
use Rattle.net_world.specs.declared.log.WorldCall.{WorldCall}
use Rattle.owner_laws.specs.Sessions.{EndsWithFailedWait}
use Rattle.worker_session.specs.Setting.{SetsBehindFirst, SetsNone, SetsSoFar}
use Rattle.worker_session.specs.Turning.{Turning, longest_pause, pending_of}
use Rattle.worker_session.specs.declared.coming.Coming.{Coming}
use Rattle.worker_session.specs.declared.coming.Coming.TheVariants.{OutOfMemory, Stalled, UnderWay, WaitFault}

-- where a turn was made since it last rested, some were made
abbrev pub IsSome : Bool → ℕ → Type 0
IsSome true made = 1 ≤ made
IsSome false made = ⊤

-- of the calls since the run began, where no other seat makes entries of turns
abbrev pub Told : (List WorldCall → Type 0) → Option (List WorldCall) → Turning → Type 0
Told fact began t = LogGets (λ calls. IsTurnOwner t.known → fact calls) began t.log

-- so far it came, behind so many turns: it stands right behind the last or rests; or a wait failed, and is the last call; or no turn is left and a request is pending; or memory was wanting, at the latest in the last of so many turns. No other wait failed
abbrev pub HasCome : Coming → ℕ → Option (List WorldCall) → Turning → Type 0
HasCome UnderWay made began t = IsSome t.behind_turn made × RunsSince longest_pause made 0 (reach_of t.behind_turn) t.known t.running began t.log × Told NoWaitFailed began t
HasCome WaitFault made began t = RunsSince longest_pause made 0 rested t.known t.running began t.log × Told EndsWithFailedWait began t
HasCome Stalled made began t = (t.left ≡ 0) × (pending_of t.known ≢ []) × RunsSince longest_pause made 0 rested t.known t.running began t.log × Told NoWaitFailed began t
HasCome OutOfMemory made began t = RanSince longest_pause made 0 t.known began t.log × Told NoWaitFailed began t

-- the servers are still to be set: no second turn was made, and it stands right behind the first, if there is one
pub record AreLeft (addresses : List ServerAddr) (later : Option (List ServerAddr)) (made : ℕ) (t : Turning) : Type 0 where
  pub same : later ≡ Some addresses
  pub none : SetsNone t.known.seat t.known.seen
  pub few : made ≤ 1
  pub behind : made ≡ 1 → t.behind_turn ≡ true

-- none are left to be set: they were set behind the first turn, if there are some, which was made then
abbrev pub AreDone : Option (List ServerAddr) → ℕ → Option (List WorldCall) → Turning → Type 0
AreDone later made began t = (made ≡ 0 → later ≡ None) × Told (SetsBehindFirst t.known.setting t.known.seat later made t.known.seen) began t

-- of these servers, by how far it came: those that are left are still to be set, and a run that stalled rested since its last turn, so that it owes none; and where none are left they were set
abbrev pub HasSet : Coming → Option (List ServerAddr) → Option (List ServerAddr) → ℕ → Option (List WorldCall) → Turning → Type 0
HasSet OutOfMemory left later made began t = Told (SetsSoFar t.known.setting t.known.seat later made t.known.seen) began t
HasSet UnderWay None later made began t = AreDone later made began t
HasSet UnderWay (Some addresses) later made began t = AreLeft addresses later made t
HasSet WaitFault None later made began t = AreDone later made began t
HasSet WaitFault (Some addresses) later made began t = ⊥
HasSet Stalled None later made began t = AreDone later made began t
HasSet Stalled (Some addresses) later made began t = AreLeft addresses later made t × IsFalse t.behind_turn

-- a run of so many turns, with these servers to be set, stands here
pub record StandsIn (turns : ℕ) (later : Option (List ServerAddr)) (began : Option (List WorldCall)) (t : Turning) : Type 0 where
  pub made : ℕ
  pub counts : made + t.left ≡ turns
  pub come : HasCome t.coming made began t
  pub sets : HasSet t.coming t.later later made began t
