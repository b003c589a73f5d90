-- Which row a message answers, and what it means for it.
use Rattle.std.specs.List.{list_any}
use Rattle.std.specs.Prelude.{Bool, List, None, Option, Some, false, get_or, if◌then◌else◌, is_some, length, not, option_map, ℕ, ◌<◌, ◌==◌, ◌≡◌}
use Rattle.channel_model.specs.Flight.{answer_to, asked_with}
use Rattle.channel_model.specs.Legs.{leg_of}
use Rattle.channel_model.specs.Replies.{Reply}
use Rattle.channel_model.specs.Verdict.{verdict_of}
use Rattle.channel_model.specs.declared.judged.Judged.{Judged}
use Rattle.channel_model.specs.declared.judged.Judged.TheVariants.{Failed, Final, NextPlain, NextTcp}
use Rattle.dns_message.specs.declared.message.Question.{Question}
use Rattle.query_machine.specs.Servers.{one_more}
use Rattle.query_machine.specs.declared.leg.Flying.{Flying}
use Rattle.resolv_options.specs.declared.flags.Flags.{Flags}
use Rattle.channel_table.specs.Wants.{is_of_addresses}
use Rattle.channel_table.specs.Rows.{lookup_at, lookups}
use Rattle.channel_table.specs.Lookups.{flew_over, flying_of, leg_of_lookup}
use Rattle.channel_table.specs.declared.wanted.Wanted.{Wanted}
use Rattle.channel_table.specs.declared.lookup.Lookup.{Lookup}
use Rattle.channel_table.specs.declared.row.Row.{Row}
use Rattle.channel_table.specs.declared.table.landing.Landing.{Landing}

-- what the bytes say, where they answer an attempt for this question
abbrev pub reply_for : List ℕ → Question → Option Flying → Option Reply
reply_for bytes question None = None
reply_for bytes question (Some flying) = answer_to flying.id (is_some flying.mix) (Some (asked_with flying.mix question)) bytes

-- the kind of which an answer of a lookup is wanted: for addresses that of the question, else any
abbrev pub kind_wanted : Wanted → Lookup → Option ℕ
kind_wanted wanted lookup = if is_of_addresses wanted then Some lookup.question.kind else None

-- what a message from this server over this link means for a lookup, where it answers its attempt and the answer is made of this
abbrev pub judged_of : Flags → ℕ → ℕ → List ℕ → Wanted → Lookup → Option Judged
judged_of flags server link bytes wanted lookup =
    if flew_over server link lookup then option_map (verdict_of flags (not (link == 0)) lookup.leg.has_opt (kind_wanted wanted lookup)) (reply_for bytes lookup.question (flying_of lookup)) else None

-- it answers the lookup's attempt
abbrev pub lands_on : Flags → ℕ → ℕ → List ℕ → Wanted → Lookup → Bool
lands_on flags server link bytes wanted lookup = is_some (judged_of flags server link bytes wanted lookup)

-- it answers an attempt of the row
abbrev pub row_lands : {T : Type 0} → Flags → ℕ → ℕ → List ℕ → Row T → Bool
row_lands flags server link bytes row = list_any (lands_on flags server link bytes row.wanted) (lookups row)

-- a lookup of the row at this index that a message answers, which means this
abbrev pub landing_of : ℕ → Bool → Judged → Lookup → Landing
landing_of index second judged lookup = record { index = index; is_second = second; number = lookup.number; leg_number = lookup.leg_number; judged = judged }

-- a lookup of a row is the one that was found
pub record IsLanding {T : Type 0} (flags : Flags) (server link : ℕ) (bytes : List ℕ) (row : Row T) (landing : Landing) : Type 0 where
  pub lookup : Lookup
  pub at : lookup_at landing.is_second row ≡ Some lookup
  pub judged : judged_of flags server link bytes row.wanted lookup ≡ Some landing.judged
  pub own : leg_of landing.number landing.leg_number ≡ leg_of_lookup lookup

-- the lookup of the row at this index that the message answers, or none
abbrev pub RowFinds : {T : Type 0} → Flags → ℕ → ℕ → List ℕ → ℕ → Row T → Option Landing → Type 0
RowFinds flags server link bytes index row None = row_lands flags server link bytes row ≡ false
RowFinds flags server link bytes index row (Some landing) = (landing.index ≡ index) × IsLanding flags server link bytes row landing

-- the row at an index has the lookup that was found
pub record FindsAt {T : Type 0} (flags : Flags) (server link : ℕ) (bytes : List ℕ) (rows : List (Row T)) (landing : Landing) : Type 0 where
  pub inside : landing.index < length rows
  pub is : (d : Row T) → IsLanding flags server link bytes (get_or rows landing.index d) landing

-- the lookup that the message answers, or none
abbrev pub Finds : {T : Type 0} → Flags → ℕ → ℕ → List ℕ → List (Row T) → Option Landing → Type 0
Finds flags server link bytes rows None = list_any (row_lands flags server link bytes) rows ≡ false
Finds flags server link bytes rows (Some landing) = FindsAt flags server link bytes rows landing

-- the count of a server's failures behind the end of an attempt on it, which meant this
abbrev pub recount_by : Judged → ℕ → ℕ
recount_by NextTcp = λ count. 0
recount_by NextPlain = λ count. 0
recount_by (Failed status) = one_more
recount_by (Final status) = λ count. 0
