-- A World in memory that goes by a script: where it stands, and what can be received.
use Rattle.std.specs.Prelude.{ℕ, ◌<◌, nat_le, min, fold, List, [], ◌++◌, length, map, filter, find, not, Bool, Option, Some, None, ⊤}
use Rattle.std.specs.List.{before_first, after_first}
use Rattle.net_world.specs.declared.answers.Got.{Got}
use Rattle.net_world.specs.declared.answers.Got.TheVariants.{Datagram, Piece, Ended, Nothing, Failed as LinkFailed}
use Rattle.net_world.specs.declared.timed.Timed.{Timed}
use Rattle.net_world.specs.declared.log.WorldCall.{WorldCall}
use Rattle.net_world.specs.Cause.{fails_at}
use Rattle.net_world.specs.World.{is_of_link}

-- where a scripted World stands
pub record ScriptState : Type 0 where
  -- the random words that are left
  pub words : List ℕ
  -- what is left to receive
  pub items : List Timed
  -- the numbers of the calls that fail
  pub fails : List ℕ
  pub clock : ℕ
  -- the clock's last reading
  pub reading : ℕ
  pub faults : ℕ
  pub wait_faults : ℕ
  pub log : List WorldCall

-- a script before the first call
abbrev pub at_start : List ℕ → List Timed → List ℕ → ScriptState
at_start words items fails = record { words = words; items = items; fails = fails; clock = 0; reading = 0; faults = 0; wait_faults = 0; log = [] }

-- a script may let this be received: a datagram, a piece with a byte, or the end of a link
abbrev pub MayCome : Got → Type 0
MayCome (Datagram server bytes) = ⊤
MayCome (Piece link bytes) = 0 < length bytes
MayCome (Ended link) = ⊤
MayCome Nothing = ⊥
MayCome (LinkFailed server link) = ⊥

-- the next call fails: all calls in the log are numbered together, from 0
abbrev pub fails_now : ScriptState → Bool
fails_now state = fails_at state.fails (length state.log)

-- the item can be received at this moment
abbrev pub is_due : ℕ → Timed → Bool
is_due clock item = nat_le item.from clock

-- what can be received at this moment, in order
abbrev pub due : ℕ → List Timed → List Got
due clock items = map (λ item. item.got) (filter (is_due clock) items)

-- what the item gives, or that there is nothing
abbrev pub got_of : Option Timed → Got
got_of None = Nothing
got_of (Some item) = item.got

-- what the first item that can be received at this moment gives, or that there is none
abbrev pub first_due : ℕ → List Timed → Got
first_due clock items = got_of (find (is_due clock) items)

-- the items without the first that can be received at this moment
abbrev pub without_first_due : ℕ → List Timed → List Timed
without_first_due clock items = before_first (is_due clock) items ++ after_first (is_due clock) items

-- the items without those of this link
abbrev pub without_link : ℕ → List Timed → List Timed
without_link link items = filter (λ item. not (is_of_link link item.got)) items

-- the earlier of this moment and of those from which on an item can be received
abbrev pub earliest : ℕ → List Timed → ℕ
earliest until items = fold (λ moment item. min moment item.from) until items
