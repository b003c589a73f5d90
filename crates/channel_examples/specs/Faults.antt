-- One server to which nothing can be sent: three attempts fail at one moment, and the request ends.
use Rattle.std.specs.Prelude.{List, ◌∷◌, [], ◌≡◌, None, refl, Some}
use Rattle.chan_types.specs.declared.journal.Entry.{Entry}
use Rattle.chan_types.specs.declared.journal.What.TheVariants.{Start, Fault, Take}
use Rattle.chan_types.specs.declared.status.Status.TheVariants.{ConnRefused}
use Rattle.resolv_options.specs.Defaults.{plain_values}
use Rattle.channel_model.specs.Merge.{bare}
use Rattle.channel_model.specs.Setting.{Setting}
use Rattle.channel_model.specs.Tests.{first_unlawful}
use Rattle.channel_examples.specs.Words.{channel_with, one_server, journal_of, accepts, ask_x, fate_in, instead, flights, cut_to}
use Rattle.dns_message.specs.NameText as NameText

abbrev pub setting : Setting
setting = channel_with (record plain_values { servers = one_server })

abbrev pub journal : List Entry
journal = journal_of (
    accepts 1 ask_x
    ∷ Start 1 0 0 0 7 None 0
    ∷ Fault 0 0 0
    ∷ Start 1 0 0 0 8 None 0
    ∷ Fault 0 0 0
    ∷ Start 1 0 0 0 9 None 0
    ∷ Fault 0 0 0
    ∷ Take 1
    ∷ [])

pub is_lawful : first_unlawful setting journal ≡ None
unfolding NameText.units_of
is_lawful = refl

pub is_refused : fate_in setting journal 1 ≡ Some (bare 1 ConnRefused [])
unfolding NameText.units_of
is_refused = refl

-- two attempts are not enough
pub early_take : first_unlawful setting (instead 5 (Take 1) journal) ≡ Some 5
unfolding NameText.units_of
early_take = refl

-- a Fault of another link, or of another server, fails nothing
pub other_link : flights setting (cut_to 2 (Fault 0 1 0) journal) ≡ 1
unfolding NameText.units_of
other_link = refl

pub other_server : flights setting (cut_to 2 (Fault 1 0 0) journal) ≡ 1
unfolding NameText.units_of
other_server = refl
