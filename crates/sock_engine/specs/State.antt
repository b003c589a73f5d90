-- What a contract sees of the real World. It tells how often its calls have failed, and what it has taken from its sockets.
use Rattle.std.specs.Prelude.{◌≡◌, ◌≢◌, ℕ, ◌≤◌, max, List, [], Bool, true, false, not, Option, None, Some, ⊤}
use Rattle.std.specs.Option.{is_some}
use mathlib.Core.List.{IsPrefix}
use Rattle.net_world.specs.declared.answers.Got.{Got}
use Rattle.net_world.specs.declared.answers.Sent.{Sent}
use Rattle.net_world.specs.declared.answers.Waited.{Waited}
use Rattle.net_world.specs.declared.answers.Waited.TheVariants.{Woken}
use Rattle.net_world.specs.Cause.{raised, is_not_sent, is_link_failed, is_not_waited}
use Rattle.sock_engine.specs.declared.local_failure.LocalFailure.{LocalFailure}
use Rattle.sock_engine.specs.declared.network.Network.{Network}
use Rattle.sock_engine.specs.Inbox.{GivesFirst}

-- where the real World stands
pub record SockState : Type 0 where
  -- its poll and its generator could be made
  pub works : Bool
  -- how often it failed, waits apart
  pub faults : ℕ
  -- how often a wait failed
  pub wait_faults : ℕ
  -- the clock's last reading
  pub reading : ℕ
  -- what was taken from the sockets and not given yet, in order
  pub came : List Got
  -- all that had come before this moment is given, or is told to be gone
  pub moment : ℕ
  -- what on this machine failed first
  pub local : Option LocalFailure

-- before the first call: the poll and the generator could be made, unless something on this machine failed
abbrev pub fresh_state : Option LocalFailure → SockState
fresh_state local = record { works = not (is_some local); faults = 0; wait_faults = 0; reading = 0; came = []; moment = 0; local = local }

-- what the network, if there is one, has received and not given yet
abbrev pub came_of : Option Network → List Got
came_of None = []
came_of (Some network) = network.inbox

-- up to when all that had come is given; without a network nothing comes
abbrev pub moment_of : ℕ → Option Network → ℕ
moment_of reading None = reading
moment_of reading (Some network) = network.watch.shown

-- the first failure of this machine stays the first
abbrev pub KeepsFirst : Option LocalFailure → Option LocalFailure → Type 0
KeepsFirst None new = ⊤
KeepsFirst (Some failure) new = new ≡ Some failure

-- the count of failures is one more exactly where this answer tells one; else a first failure of this machine may be known
pub record CountsFault {T : Type 0} (fails : T → Bool) (old new : SockState) (answer : T) : Type 0 where
  pub state : new ≡ record old { faults = raised (fails answer) old.faults; local = new.local }
  pub first : KeepsFirst old.local new.local

-- the count of failures is one more exactly where this answer tells one; more may have come behind what had
pub record CountsSend (old new : SockState) (sent : Sent) : Type 0 where
  pub state : new ≡ record old { faults = raised (is_not_sent sent) old.faults; came = new.came; local = new.local }
  pub came : IsPrefix old.came new.came
  pub first : KeepsFirst old.local new.local

-- the clock isn't put back, and stands as long as something that was taken isn't given
pub record HoldsClock (old new : SockState) : Type 0 where
  pub later : old.moment ≤ new.moment
  pub holds : old.came ≢ [] → new.moment ≡ old.moment

-- the first of what came is given, or nothing came
pub record GivesNext (old new : SockState) (got : Got) : Type 0 where
  pub state : new ≡ record old { came = new.came; moment = new.moment }
  pub first : GivesFirst old.came new.came got
  pub clock : HoldsClock old new

-- the first of what came is given, or nothing came, and the count of failures is one more exactly where it tells one
pub record CountsReceive (old new : SockState) (got : Got) : Type 0 where
  pub state : new ≡ record old { faults = raised (is_link_failed got) old.faults; came = new.came; moment = new.moment; local = new.local }
  pub first : GivesFirst old.came new.came got
  pub clock : HoldsClock old new
  pub failure : KeepsFirst old.local new.local

-- nothing is changed, but that something may have come where nothing had
pub record Keeps (old new : SockState) : Type 0 where
  pub state : new ≡ record old { came = new.came; moment = new.moment }
  pub came : old.came ≢ [] → new.came ≡ old.came
  pub clock : HoldsClock old new

-- the count of failed waits is one more exactly where this answer tells one; else a first failure of this machine may be known.
-- Where something that came isn't given it doesn't fail
pub record CountsWait (old new : SockState) (waited : Waited) : Type 0 where
  pub state : new ≡ record old { wait_faults = raised (is_not_waited waited) old.wait_faults; local = new.local }
  pub first : KeepsFirst old.local new.local
  pub held : old.came ≢ [] → waited ≡ Woken

-- without a poll and a generator this answer tells a failure
abbrev pub FailsUnmade : {T : Type 0} → (T → Bool) → SockState → T → Type 0
FailsUnmade fails old answer = old.works ≡ false → fails answer ≡ true

-- the answer is the later of the last reading and the moment before which all is given, and is now the last reading. As long as
-- something that was taken isn't given, that moment stays, and nothing more is taken; else what comes is taken by now
pub record ReadsOn (old new : SockState) (answer : ℕ) : Type 0 where
  pub later : old.reading ≤ answer
  pub moment : answer ≡ max old.reading new.moment
  pub clock : HoldsClock old new
  pub came : IsPrefix old.came new.came
  pub holds : old.came ≢ [] → new.came ≡ old.came
  pub state : new ≡ record old { reading = answer; came = new.came; moment = new.moment; local = new.local }
  pub first : KeepsFirst old.local new.local
