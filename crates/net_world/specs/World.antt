-- What the calls of a World do to what can be received and to the clock's last reading.
use Rattle.std.specs.Prelude.{◌≡◌, ℕ, ◌<◌, ◌≤◌, ◌==◌, List, [], ◌∷◌, length, filter, Bool, false, not, Option, option_map, is_some, Result, Ok, Err, OnErr, MatchOption, ⊤}
use Rattle.item_list.specs.declared.no_memory.NoMemory.{NoMemory}
use Rattle.net_world.specs.declared.answers.Wrote.{Wrote}
use Rattle.net_world.specs.declared.answers.Wrote.TheVariants.{Count, Failed as NotWritten}
use Rattle.net_world.specs.declared.answers.Got.{Got}
use Rattle.net_world.specs.declared.answers.Got.TheVariants.{Datagram, Piece, Ended, Nothing, Failed as LinkFailed}

-- the reading isn't below the last one, and is now the last; want of memory leaves it
abbrev pub Reads : ℕ → ℕ → Result ℕ NoMemory → Type 0
Reads old new (Ok reading) = (old ≤ reading) × (new ≡ reading)
Reads old new (Err e) = new ≡ old

-- what can be received may change, told or not as before; want of memory leaves it
pub record MayBring {T : Type 0} (old new : Option (List Got)) (result : Result T NoMemory) : Type 0 where
  pub told : is_some new ≡ is_some old
  pub same : OnErr result (new ≡ old)

-- what could be received is what was received and then what can be received now; nothing is received only where nothing could be, and a failure takes nothing
abbrev pub Takes : Option (List Got) → Option (List Got) → Got → Type 0
Takes old new (Datagram server bytes) = old ≡ option_map (λ items. Datagram server bytes ∷ items) new
Takes old new (Piece link bytes) = old ≡ option_map (λ items. Piece link bytes ∷ items) new
Takes old new (Ended link) = old ≡ option_map (λ items. Ended link ∷ items) new
Takes old new Nothing = (new ≡ old) × MatchOption old ⊤ (λ items. items ≡ [])
Takes old new (LinkFailed server link) = new ≡ old

-- the same, where want of memory leaves what can be received
abbrev pub Receives : Option (List Got) → Option (List Got) → Result Got NoMemory → Type 0
Receives old new (Ok got) = Takes old new got
Receives old new (Err e) = new ≡ old

-- it is of the link with this number
abbrev pub is_of_link : ℕ → Got → Bool
is_of_link link (Datagram server bytes) = false
is_of_link link (Piece other bytes) = other == link
is_of_link link (Ended other) = other == link
is_of_link link Nothing = false
is_of_link link (LinkFailed server other) = other == link

-- of what could be received, what is of this link can be received no more; want of memory leaves it
abbrev pub Closes : ℕ → Option (List Got) → Option (List Got) → Result Unit NoMemory → Type 0
Closes link old new (Ok done) = new ≡ option_map (filter (λ got. not (is_of_link link got))) old
Closes link old new (Err e) = new ≡ old

-- so many bytes were taken, of this many at most
abbrev pub IsPartOf : ℕ → Wrote → Type 0
IsPartOf count (Count n) = n ≤ count
IsPartOf count NotWritten = ⊤

-- a piece has a byte
abbrev pub IsWhole : Got → Type 0
IsWhole (Datagram server bytes) = ⊤
IsWhole (Piece link bytes) = 0 < length bytes
IsWhole (Ended link) = ⊤
IsWhole Nothing = ⊤
IsWhole (LinkFailed server link) = ⊤
