-- What each call of a scripted World answers, and how it leaves it.
use Rattle.std.specs.Prelude.{◌≡◌, ◌≢◌, ◌⊎◌, ℕ, ◌≤◌, max, if◌then◌else◌, List, [], ◌∷◌, ◌++◌, length, drop, ⊤}
use Rattle.net_addr.specs.declared.addr.ServerAddr.{ServerAddr}
use Rattle.net_world.specs.declared.answers.Sent.{Sent}
use Rattle.net_world.specs.declared.answers.Sent.TheVariants.{Sent as WasSent, Failed as NotSent}
use Rattle.net_world.specs.declared.answers.Wrote.{Wrote}
use Rattle.net_world.specs.declared.answers.Wrote.TheVariants.{Count, Failed as NotWritten}
use Rattle.net_world.specs.declared.answers.Got.{Got}
use Rattle.net_world.specs.declared.answers.Got.TheVariants.{Failed as LinkFailed}
use Rattle.net_world.specs.declared.answers.Waited.{Waited}
use Rattle.net_world.specs.declared.answers.Waited.TheVariants.{Woken, Failed as NotWaited}
use Rattle.net_world.specs.declared.log.WorldCall.{WorldCall}
use Rattle.net_world.specs.declared.log.WorldCall.TheVariants.{Serve, Now, Word, Send, Connect, Write, Receive, Close, Wait}
use Rattle.net_world.specs.Cause.{raised}
use Rattle.net_world.specs.Script.{ScriptState, fails_now, due, first_due, without_first_due, without_link, earliest}

-- the state with this call and its answer in the log
abbrev pub logged : WorldCall → ScriptState → ScriptState
logged call state = record state { log = state.log ++ call ∷ [] }

-- the state after a call other than a wait: one more fault, where it fails
abbrev pub faulted : ScriptState → ScriptState
faulted state = record state { faults = raised (fails_now state) state.faults }

-- it tells an address, which stands in the log alone
pub record Serves (server : ℕ) (address : ServerAddr) (old new : ScriptState) : Type 0 where
  pub state : new ≡ logged (Serve server address) old

-- it answers the clock, which is then the last reading
pub record ReadsClock (old new : ScriptState) (answer : ℕ) : Type 0 where
  pub clock : answer ≡ old.clock
  pub state : new ≡ record (logged (Now answer) old) { reading = answer }

-- the first of these words, and 0 where there is none
abbrev pub word_of : List ℕ → ℕ
word_of [] = 0
word_of (word ∷ words) = word

-- it draws the next word, and 0 past their end
pub record DrawsNext (old new : ScriptState) (word : ℕ) : Type 0 where
  pub next : word ≡ word_of old.words
  pub state : new ≡ record (logged (Word word) old) { words = drop 1 old.words }

-- a datagram is sent, or the call fails
pub record Sends (server : ℕ) (bytes : List ℕ) (old new : ScriptState) (sent : Sent) : Type 0 where
  pub answer : sent ≡ (if fails_now old then NotSent else WasSent)
  pub state : new ≡ logged (Send server bytes sent) (faulted old)

-- a link is begun, or the call fails
pub record Connects (server link : ℕ) (old new : ScriptState) (sent : Sent) : Type 0 where
  pub answer : sent ≡ (if fails_now old then NotSent else WasSent)
  pub state : new ≡ logged (Connect server link sent) (faulted old)

-- all bytes are taken, or the call fails
pub record WritesAll (link : ℕ) (bytes : List ℕ) (old new : ScriptState) (wrote : Wrote) : Type 0 where
  pub answer : wrote ≡ (if fails_now old then NotWritten else Count (length bytes))
  pub state : new ≡ logged (Write link bytes wrote) (faulted old)

-- the first item that can be received is taken, or the call fails and takes none
pub record ReceivesFirst (old new : ScriptState) (got : Got) : Type 0 where
  pub answer : got ≡ (if fails_now old then LinkFailed 0 0 else first_due old.clock old.items)
  pub state : new ≡ record (logged (Receive got) (faulted old)) { items = if fails_now old then old.items else without_first_due old.clock old.items }

-- the items of the link vanish
pub record ClosesLink (link : ℕ) (old new : ScriptState) : Type 0 where
  pub state : new ≡ record (logged (Close link) old) { items = without_link link old.items }

-- the clock goes to the earlier of `until` and the next item's moment, and stays where that isn't later or the call fails
pub record WaitsUntil (until : ℕ) (old new : ScriptState) (waited : Waited) : Type 0 where
  pub answer : waited ≡ (if fails_now old then NotWaited else Woken)
  pub state : new ≡ record (logged (Wait until waited) old) {
    clock = if fails_now old then old.clock else max old.clock (earliest until old.items);
    wait_faults = raised (fails_now old) old.wait_faults;
  }

-- a wait that didn't fail ends where something can be received, or at the moment that was waited for
abbrev pub WakesWell : ℕ → ScriptState → Waited → Type 0
WakesWell until state Woken = (due state.clock state.items ≢ []) ⊎ (until ≤ state.clock)
WakesWell until state NotWaited = ⊤
