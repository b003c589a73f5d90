-- Where a new request is put.
use Rattle.std.specs.Prelude.{Option, option_map, List, [], false, ℕ, ◌++◌, ◌∷◌, ◌≡◌}
use Rattle.chan_types.specs.declared.ticket.Ticket.{Ticket}
use Rattle.channel_model.specs.Merge.{bare}
use Rattle.query_machine.specs.Legs.{fresh_leg}
use Rattle.resolv_options.specs.declared.flags.Flags.{Flags}
use Rattle.channel_table.specs.Wants.{first_number}
use Rattle.channel_table.specs.Lookups.{new_lookup}
use Rattle.channel_table.specs.declared.lookup.Asked.{Asked}
use Rattle.channel_table.specs.declared.wanted.Wanted.{Wanted}
use Rattle.channel_table.specs.declared.row.Row.{Row}
use Rattle.channel_table.specs.declared.table.accepting.Opening.{Opening}
use Rattle.channel_table.specs.declared.table.accepting.Opening.TheVariants.{Answered, Asks, Ends}

-- the row of a new request, which asks its first candidate
pub record IsNewRow {T : Type 0} (flags : Flags) (number : ℕ) (wanted : Wanted) (token : T) (asked : Asked) (second : Option Asked) (row : Row T) : Type 0 where
  pub numbered : row.number ≡ number
  pub wants : row.wanted ≡ wanted
  pub first_lookup : row.first ≡ new_lookup number (first_number wanted) asked (fresh_leg flags)
  pub second_lookup : row.second ≡ option_map (λ (a : Asked). new_lookup number 1 a (fresh_leg flags)) second
  pub unpassed : row.empty ≡ false
  pub for' : row.token ≡ token

-- a request that asks is put behind the pending ones, and one that ends at once behind the ready ones
abbrev pub Places : {T : Type 0} → Flags → ℕ → Wanted → T → List (Row T) → List (Row T) → List (Ticket T) → List (Ticket T) → Opening → Type 0
Places flags number wanted token rows new_rows tickets new_tickets (Asks asked second) =
    (row : Row _) × IsNewRow flags number wanted token asked second row × (new_rows ≡ rows ++ row ∷ []) × (new_tickets ≡ tickets)
Places flags number wanted token rows new_rows tickets new_tickets (Ends status) = (new_rows ≡ rows) × (new_tickets ≡ tickets ++ record { token = token; call = bare number status [] } ∷ [])
Places flags number wanted token rows new_rows tickets new_tickets (Answered answer) = (new_rows ≡ rows) × (new_tickets ≡ tickets ++ record { token = token; call = answer } ∷ [])
