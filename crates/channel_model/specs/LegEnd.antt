-- When a leg ends, and how.
use Rattle.std.specs.Bool.{then_some}
use Rattle.std.specs.Option.{option_or}
use Rattle.std.specs.Prelude.{List, ℕ, Option, None, Some, nat_le, [], ◌∷◌, option_map}
use Rattle.chan_types.specs.declared.status.Status.{Status}
use Rattle.channel_model.specs.Journal.{Past}
use Rattle.channel_model.specs.Legs.{Leg}
use Rattle.channel_model.specs.Past.{Closing, spent, closings}
use Rattle.channel_model.specs.Setting.{Setting}
use Rattle.channel_model.specs.declared.judged.Judged.{Judged}
use Rattle.channel_model.specs.declared.judged.Judged.TheVariants.{NextTcp, NextPlain, Failed, Final}

-- how a leg ended: its status, and the reply that ended it, or no byte
pub record LegEnd : Type 0 where
  pub status : Status
  pub reply : List ℕ

-- the status with which an attempt's end ends its leg, where so many attempts are spent with it and a leg may spend so many
abbrev pub ending_status : Option Judged → ℕ → ℕ → Option Status
ending_status None count most = None
ending_status (Some NextTcp) count most = None
ending_status (Some NextPlain) count most = None
ending_status (Some (Failed status)) count most = then_some (nat_le most count) status
ending_status (Some (Final status)) count most = Some status

-- how the first of these closings that ends its leg ends it
abbrev pub end_of : List Closing → Option LegEnd
end_of [] = None
end_of (closing ∷ earlier) =
    option_or (end_of earlier) (option_map (λ status. record { status = status; reply = closing.reply }) (ending_status closing.outcome (spent (closing ∷ earlier)) closing.most))

-- how the leg has ended, if it has
abbrev pub leg_end : Setting → Leg → Past → Option LegEnd
leg_end setting leg past = end_of (closings setting leg past)
