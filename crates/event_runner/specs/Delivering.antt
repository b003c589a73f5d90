-- What a desk is handed of a link: the messages that came on it, in order.
use Rattle.std.specs.Prelude.{Err, List, Ok, Result, map, ℕ, ◌≡◌}
use mathlib.Core.List.{IsPrefix}
use Rattle.chan_types.specs.declared.journal.Entry.{Entry}
use Rattle.chan_types.specs.declared.journal.What.TheVariants.{Arrive}
use Rattle.item_list.specs.declared.no_memory.NoMemory.{NoMemory}
use Rattle.channel_model.specs.Journal.{own_entries}
use Rattle.channel_model.specs.Known.{GoesOn, Known}
use Rattle.event_runner.specs.Goes.{AreMadeInTurns}

-- the entries of a seat are that these messages came from the server over the link, in order
abbrev pub NoteArrivals : ℕ → ℕ → ℕ → List (List ℕ) → List Entry → Type 0
NoteArrivals seat server link messages entries = map (λ entry. entry.what) (own_entries seat entries) ≡ map (λ message. Arrive server link message) messages

-- a desk was handed these messages
pub record HasDelivered (server link : ℕ) (messages : List (List ℕ)) (old new : Known) : Type 0 where
  pub goes_on : GoesOn old new
  pub made : AreMadeInTurns old.seat goes_on.since
  pub notes : NoteArrivals old.seat server link messages goes_on.since

-- a desk was handed the first of these messages
pub record HasDeliveredSome (server link : ℕ) (messages : List (List ℕ)) (old new : Known) : Type 0 where
  pub goes_on : GoesOn old new
  pub made : AreMadeInTurns old.seat goes_on.since
  pub handed : List (List ℕ)
  pub not_more : IsPrefix handed messages
  pub notes : NoteArrivals old.seat server link handed goes_on.since

-- a desk was handed these messages, or for want of memory the first of them
abbrev pub Delivers : ℕ → ℕ → List (List ℕ) → Result Unit NoMemory → Known → Known → Type 0
Delivers server link messages (Ok done) old new = HasDelivered server link messages old new
Delivers server link messages (Err fault) old new = HasDeliveredSome server link messages old new
