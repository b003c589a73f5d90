-- An attempt is due at its deadline, and not before: a turn with that reading has to expire it.
use Rattle.std.proofs.Common.{◌≡◌, ◌<◌, [], ◌∷◌, Some, refl, arith, None}
use Rattle.chan_types.specs.declared.journal.What.TheVariants.{Start}
use Rattle.resolv_options.specs.Defaults.{plain_values}
use Rattle.channel_model.specs.Journal.{Past}
use Rattle.channel_model.specs.Lawful.{first_due}
use Rattle.channel_model.specs.Legs.{leg_of}
use Rattle.channel_model.specs.Setting.{Setting}
use Rattle.channel_model.specs.Turn.{NoneDue}
use Rattle.channel_examples.specs.Words.{channel_with, one_server, ask_x, accepts}
use Rattle.dns_message.specs.NameText as NameText

abbrev pub setting : Setting
setting = channel_with (record plain_values { servers = one_server; tries = 1 })

-- a request was accepted, and its query sent at 0
abbrev pub past : Past
past = Start 1 0 0 0 7 None 0 ∷ accepts 1 ask_x ∷ []

pub deadline : first_due setting past ≡ Some (record { at = 2000; leg = leg_of 1 0 })
unfolding NameText.units_of
deadline = refl

pub none_before : NoneDue setting 1999 past
unfolding NameText.units_of
none_before = let later : 1999 < 2000 = omega arith in later

pub due_then : NoneDue setting 2000 past → ⊥
unfolding NameText.units_of
due_then none = let later : 2000 < 2000 = none in absurd (omega (arith, later))
