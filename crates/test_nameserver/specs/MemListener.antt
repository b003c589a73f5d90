-- A server's side of the network in memory: where it stands, and what its calls answer and leave.
use Rattle.std.specs.Prelude.{◌≡◌, ℕ, List, [], ◌∷◌, ◌++◌, length, drop, Bool, if◌then◌else◌, ⊤}
use Rattle.net_world.specs.Cause.{raised, fails_at}
use Rattle.net_world.specs.declared.answers.Sent.{Sent}
use Rattle.net_world.specs.declared.answers.Sent.TheVariants.{Sent as WasSent, Failed as NotSent}
use Rattle.test_nameserver.specs.declared.listener.Heard.{Heard}
use Rattle.test_nameserver.specs.declared.listener.Heard.TheVariants.{Message, Failed as NotHeard}
use Rattle.test_nameserver.specs.declared.listener.ListenerCall.{ListenerCall}
use Rattle.test_nameserver.specs.declared.listener.ListenerCall.TheVariants.{Listen, Next, Reply}
use Rattle.test_nameserver.specs.Listening.{has_failed}

-- where it stands
pub record ListenerState : Type 0 where
  -- the messages that are left to hear
  pub messages : List Heard
  -- the numbers of the calls that fail
  pub fails : List ℕ
  pub faults : ℕ
  pub log : List ListenerCall

-- before the first call
abbrev pub at_start : List Heard → List ℕ → ListenerState
at_start messages fails = record { messages = messages; fails = fails; faults = 0; log = [] }

-- a message was heard
abbrev pub IsMessage : Heard → Type 0
IsMessage (Message tcp bytes) = ⊤
IsMessage NotHeard = ⊥

-- the next call fails: all calls in the log are numbered together, from 0
abbrev pub fails_now : ListenerState → Bool
fails_now state = fails_at state.fails (length state.log)

-- what the next call answers, where it sends
abbrev pub sent_now : ListenerState → Sent
sent_now state = if fails_now state then NotSent else WasSent

-- the first of these messages; behind the last one nothing is heard
abbrev pub first_of : List Heard → Heard
first_of [] = NotHeard
first_of (heard ∷ messages) = heard

-- the state with this call and its answer in the log, and one more fault where it failed
abbrev pub logged : ListenerCall → ListenerState → ListenerState
logged call state = record state { faults = raised (has_failed call) state.faults; log = state.log ++ call ∷ [] }

-- it listens, or the call fails
pub record Listens (port : ℕ) (old new : ListenerState) (sent : Sent) : Type 0 where
  pub answer : sent ≡ sent_now old
  pub state : new ≡ logged (Listen port sent) old

-- the first message that is left is heard; where the call fails none is taken
pub record HearsNext (old new : ListenerState) (heard : Heard) : Type 0 where
  pub answer : heard ≡ (if fails_now old then NotHeard else first_of old.messages)
  pub state : new ≡ record (logged (Next heard) old) { messages = if fails_now old then old.messages else drop 1 old.messages }

-- the reply is sent, or the call fails
pub record Replies (bytes : List ℕ) (old new : ListenerState) (sent : Sent) : Type 0 where
  pub answer : sent ≡ sent_now old
  pub state : new ≡ logged (Reply bytes sent) old
