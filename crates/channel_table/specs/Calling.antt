-- What the one owner of a table knows.
use base.Stored.{gnil}
use Rattle.std.specs.FinMap as finite
use Rattle.std.specs.Prelude.{List, Some, map, ℕ}
use Rattle.chan_types.specs.declared.journal.Entry.{Entry}
use Rattle.channel_model.specs.Known.{Known}
use Rattle.channel_model.specs.Names.{Names}
use Rattle.channel_model.specs.Setting.{Setting}
use Rattle.channel_table.specs.Tokens.{Shown, Tokens}

-- a channel with one owner: its setting, the request whose callback's commands he performs, or 0, its journal, which he made alone, and the names of the tokens in it
pub record Owned : Type 0 where
  pub setting : Setting
  pub voice : ℕ
  pub seen : List Entry
  pub names : Names

-- the names of tokens, by the same numbers
abbrev pub names_of : {T : Type 0} → (T → ℕ) → Tokens T → Names
names_of name tokens = finite.from_entries (map (λ entry. (entry.0, name entry.1)) (finite.entries tokens))

-- the channel of a table, with one owner
abbrev pub owned : {T : Type 0} → (T → ℕ) → ℕ → Shown T → Owned
owned name voice table = record { setting = table.setting; voice = voice; seen = table.journal; names = names_of name table.tokens }

-- what its owner knows: he has seat 0, and the whole journal is his own
abbrev pub known_by_owner : Owned → Known
known_by_owner channel = record { setting = channel.setting; home = gnil; seat = 0; voice = channel.voice; own = channel.seen; seen = channel.seen; names = Some channel.names }

-- the same, of a table
abbrev pub known_alone : {T : Type 0} → (T → ℕ) → ℕ → Shown T → Known
known_alone name voice table = known_by_owner (owned name voice table)
