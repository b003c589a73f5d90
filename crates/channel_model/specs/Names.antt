-- Who is to be told: the names of the tokens with which a channel's requests were accepted, by the requests' numbers.
use Rattle.std.specs.FinMap as finite
use Rattle.std.specs.List.{list_any}
use Rattle.std.specs.Ordering.{nat_cmp}
use Rattle.std.specs.Prelude.{Bool, Err, IsFalse, List, None, Ok, Option, Result, Some, false, ℕ, ◌==◌, ◌≡◌, ⊤}
use Rattle.chan_types.specs.declared.journal.Entry.{Entry}
use Rattle.chan_types.specs.declared.journal.What.{What}
use Rattle.chan_types.specs.declared.journal.What.TheVariants.{Accept, Arrive, Cancel, Destroy, Expire, Fault, Servers, Start, Take}
use Rattle.chan_types.specs.declared.ticket.Ticket.{Ticket}

-- the names of the tokens of requests that aren't taken, by number
abbrev pub Names : Type 0
Names = finite.FinMap nat_cmp ℕ

-- what an entry makes of them: an accepted request's token is there from now on, that of a taken one is there no more, and no other entry touches any
abbrev pub BecomeBy : Option What → Names → Names → Type 0
BecomeBy None old new = new ≡ old
BecomeBy (Some (Accept number spec script)) old new = (name : ℕ) × (new ≡ finite.insert old number name)
BecomeBy (Some Cancel) old new = new ≡ old
BecomeBy (Some Destroy) old new = new ≡ old
BecomeBy (Some (Take number)) old new = new ≡ finite.remove old number
BecomeBy (Some (Start number leg server link id mix moment)) old new = new ≡ old
BecomeBy (Some (Arrive server link bytes)) old new = new ≡ old
BecomeBy (Some (Expire number leg moment)) old new = new ≡ old
BecomeBy (Some (Fault server link moment)) old new = new ≡ old
BecomeBy (Some (Servers list)) old new = new ≡ old

-- the same of a desk, which knows them or doesn't
abbrev pub NamesBecome : Option What → Option Names → Option Names → Type 0
NamesBecome added None new = new ≡ None
NamesBecome added (Some old) new = (names : Names) × (new ≡ Some names) × BecomeBy added old names

-- the entry accepts or takes this request
abbrev pub moves : ℕ → What → Bool
moves number (Accept n spec script) = n == number
moves number Cancel = false
moves number Destroy = false
moves number (Take n) = n == number
moves number (Start n leg server link id mix moment) = false
moves number (Arrive server link bytes) = false
moves number (Expire n leg moment) = false
moves number (Fault server link moment) = false
moves number (Servers list) = false

-- among the entries is one that accepts or takes this request
abbrev pub is_moved : ℕ → List Entry → Bool
is_moved number entries = list_any (λ entry. moves number entry.what) entries

-- behind these entries the tokens of requests that none of them accepted or took have the names that they had, where the desk knows them
abbrev pub NamesStay : List Entry → Option Names → Option Names → Type 0
NamesStay since None new = new ≡ None
NamesStay since (Some old) new = (names : Names) × (new ≡ Some names)
    × ((number : ℕ) → IsFalse (is_moved number since) → finite.get names number ≡ finite.get old number)

-- the token of this request has this name, where the desk knows it
abbrev pub IsNamed : ℕ → ℕ → Option Names → Type 0
IsNamed number name None = ⊤
IsNamed number name (Some names) = finite.get names number ≡ Some name

-- an accepted request's token is the one that was handed in, by its name
abbrev pub KeepsName : {R : Type 0} → ℕ → Result ℕ R → Option Names → Type 0
KeepsName name (Ok number) new = IsNamed number name new
KeepsName name (Err refused) new = ⊤

-- a ticket's token is the one with which its request was accepted, by its name
abbrev pub GivesName : {T : Type 0} → (T → ℕ) → Option (Ticket T) → Option Names → Type 0
GivesName name None old = ⊤
GivesName name (Some ticket) old = IsNamed ticket.call.number (name ticket.token) old
