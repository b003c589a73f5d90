-- When a failure may be told: only where the count of failures rose.
use Rattle.std.specs.Prelude.{◌≡◌, ℕ, ◌+◌, ◌^◌, ◌<◌, ◌≤◌, nat_lt, ◌==◌, if◌then◌else◌, List, Bool, true, false, IsTrue, Result, IfOk, OnErr}
use Rattle.std.specs.List.{list_any}
use Rattle.item_list.specs.declared.no_memory.NoMemory.{NoMemory}
use Rattle.net_world.specs.declared.answers.Sent.{Sent}
use Rattle.net_world.specs.declared.answers.Sent.TheVariants.{Sent as WasSent, Failed as NotSent}
use Rattle.net_world.specs.declared.answers.Wrote.{Wrote}
use Rattle.net_world.specs.declared.answers.Wrote.TheVariants.{Count, Failed as NotWritten}
use Rattle.net_world.specs.declared.answers.Got.{Got}
use Rattle.net_world.specs.declared.answers.Got.TheVariants.{Datagram, Piece, Ended, Nothing, Failed as LinkFailed}
use Rattle.net_world.specs.declared.answers.Waited.{Waited}
use Rattle.net_world.specs.declared.answers.Waited.TheVariants.{Woken, Failed as NotWaited}
use Rattle.net_world.specs.declared.answers.FileRead.{FileRead}
use Rattle.net_world.specs.declared.answers.FileRead.TheVariants.{Content, Absent, Large, Failed as NotRead}
use Rattle.net_world.specs.declared.answers.PutEnd.{PutEnd}
use Rattle.net_world.specs.declared.answers.PutEnd.TheVariants.{Done, Failed as NotPut}

-- the count rose; one that stood at the greatest number of 64 bits counts as risen
abbrev pub Rose : ℕ → ℕ → Type 0
Rose before now = before + 1 < 2 ^ 64 → before < now

-- the count didn't fall, a failure is told only where it rose, and want of memory leaves it
pub record HasCause {T : Type 0} (before now : ℕ) (fails : T → Bool) (result : Result T NoMemory) : Type 0 where
  pub later : before ≤ now
  pub cause : IfOk result (λ answer. IsTrue (fails answer) → Rose before now)
  pub same : OnErr result (now ≡ before)

-- no answer tells a failure
abbrev pub never : {T : Type 0} → T → Bool
never answer = false

-- a datagram or a link failed
abbrev pub is_not_sent : Sent → Bool
is_not_sent WasSent = false
is_not_sent NotSent = true

-- a write failed
abbrev pub is_not_written : Wrote → Bool
is_not_written (Count n) = false
is_not_written NotWritten = true

-- a link failed, and a receive told so
abbrev pub is_link_failed : Got → Bool
is_link_failed (Datagram server bytes) = false
is_link_failed (Piece link bytes) = false
is_link_failed (Ended link) = false
is_link_failed Nothing = false
is_link_failed (LinkFailed server link) = true

-- a wait failed
abbrev pub is_not_waited : Waited → Bool
is_not_waited Woken = false
is_not_waited NotWaited = true

-- a read of a file failed
abbrev pub is_not_read : FileRead → Bool
is_not_read (Content bytes) = false
is_not_read Absent = false
is_not_read Large = false
is_not_read NotRead = true

-- an output failed
abbrev pub is_not_put : PutEnd → Bool
is_not_put Done = false
is_not_put NotPut = true

-- a count of 64 bits, one more where a call counts; at its greatest it stays
abbrev pub raised : Bool → ℕ → ℕ
raised false count = count
raised true count = if nat_lt (count + 1) (2 ^ 64) then count + 1 else count

-- of the calls that fail by their numbers, the one with this number is one
abbrev pub fails_at : List ℕ → ℕ → Bool
fails_at numbers number = list_any (λ other. other == number) numbers
