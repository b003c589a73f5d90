-- What a contract sees of the server's side of the real network: whether it has its sockets, and how often it failed.
use Rattle.std.specs.Prelude.{◌≡◌, ℕ, Bool, true, false, not}
use Rattle.net_world.specs.Cause.{raised}
use Rattle.net_world.specs.declared.answers.Sent.{Sent}
use Rattle.net_world.specs.Cause.{is_not_sent}

-- where a listener stands
pub record ListenerState : Type 0 where
  -- it has its sockets
  pub listens : Bool
  -- how often it failed
  pub faults : ℕ

-- before the first call
abbrev pub silent_state : ListenerState
silent_state = record { listens = false; faults = 0 }

-- it listens from then on, or fails and doesn't, whatever it did before; the count of failures is one more exactly where it fails
pub record ListensOr (old new : ListenerState) (sent : Sent) : Type 0 where
  pub state : new ≡ record { listens = not (is_not_sent sent); faults = raised (is_not_sent sent) old.faults }

-- the count of failures is one more exactly where this answer tells one, and nothing else changes; without sockets it fails
pub record CountsFailure {T : Type 0} (fails : T → Bool) (old new : ListenerState) (answer : T) : Type 0 where
  pub state : new ≡ record old { faults = raised (fails answer) old.faults }
  pub unmade : old.listens ≡ false → fails answer ≡ true
