-- The desk of this crate's tests: it is that of a channel which was destroyed before anything was asked.
use Rattle.std.specs.Prelude.{List, None, [], ◌∷◌, ◌≡◌}
use base.Stored.{Gv}
use Rattle.chan_types.specs.declared.journal.Entry.{Entry}
use Rattle.chan_types.specs.declared.journal.What.TheVariants.{Accept, Arrive, Cancel, Destroy, Expire, Fault, Servers, Start, Take}
use Rattle.resolv_options.specs.Defaults.{plain_values}
use Rattle.channel_model.specs.Journal.{Past}
use Rattle.channel_model.specs.Known.{Known}
use Rattle.channel_model.specs.Setting.{Setting}

-- the default options, and an empty hosts file
abbrev pub plain_setting : Setting
plain_setting = record { options = plain_values; hosts = [] }

-- what the desk knows: it is the channel's only one, in seat 0, and knows no names of tokens
abbrev pub known_of : List Entry → Known
known_of journal = record { setting = plain_setting; home = Gv.gnil; seat = 0; voice = 0; own = journal; seen = journal; names = None }

-- the channel was destroyed at the beginning, and then messages came and links failed
abbrev pub IsClosed : Past → Type 0
IsClosed [] = ⊥
IsClosed (Accept number spec script ∷ past) = ⊥
IsClosed (Cancel ∷ past) = ⊥
IsClosed (Destroy ∷ past) = past ≡ []
IsClosed (Take number ∷ past) = ⊥
IsClosed (Start number leg server link id mix moment ∷ past) = ⊥
IsClosed (Arrive server link bytes ∷ past) = IsClosed past
IsClosed (Expire number leg moment ∷ past) = ⊥
IsClosed (Fault server link moment ∷ past) = IsClosed past
IsClosed (Servers list ∷ past) = ⊥
