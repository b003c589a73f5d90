-- What a table keeps true of its fields.
use Rattle.std.specs.Prelude.{List, cond, length, ℕ, ◌*◌, ◌+◌, ◌^◌, ◌≡◌, ◌≤◌}
use Rattle.std.specs.VecDeque.{deque_capacity, deque_len}
use Rattle.chan_types.specs.declared.journal.Entry.{Entry}
use Rattle.chan_types.specs.declared.script.Script.{Script}
use Rattle.channel_model.specs.Journal.{accepted, is_destroyed, past_of}
use Rattle.channel_model.specs.Lawful.{IsLawful}
use Rattle.channel_model.specs.Seen.{Seen}
use Rattle.channel_model.specs.Setting.{Setting}
use Rattle.resolv_options.specs.Values.{AreWithinLimits}
use Rattle.channel_table.specs.Counted.{AreCounted}
use Rattle.channel_table.specs.Rows.{TableStands}
use Rattle.channel_table.specs.Tokens.{Shown, tokens_of}
use Rattle.channel_table.specs.declared.table.Table.TheInside.{Inside}

-- the setting of a table
abbrev pub setting_of : {T J : Type 0} → Inside T J → Setting
setting_of t = record { options = t.options; hosts = t.hosts }

-- the setting and the journal, where this is what a journal was told
abbrev pub seen_of : {T J : Type 0} → (J → List Entry) → Inside T J → Seen
seen_of told t = record { setting = setting_of t; journal = told t.journal }

-- and with the tokens of its rows and its tickets
abbrev pub shown_of : {T J : Type 0} → (J → List Entry) → Inside T J → Shown T
shown_of told t = record { setting = setting_of t; journal = told t.journal; tokens = tokens_of t.rows t.ready.items }

-- how many entries more may have to be told without memory: a Take and a Cancel of each request, and a Destroy
abbrev pub still_to_tell : {T J : Type 0} → Inside T J → ℕ
still_to_tell t = 2 * length t.rows + deque_len t.ready + cond t.closed 0 1

-- the journal is lawful and says what rows and tickets have; there is room for what may have to be told without memory, and for each row among the tickets
pub record IsKept {T J : Type 0} (plan : T → Script) (told : J → List Entry) (room_of : J → ℕ) (t : Inside T J) : Type 0 where
  pub limits : AreWithinLimits t.options
  pub lawful : IsLawful (setting_of t) (told t.journal)
  pub stands : TableStands plan (setting_of t) (past_of (told t.journal)) t.rows t.ready.items
  pub counted : AreCounted (setting_of t) (past_of (told t.journal)) t.servers
  pub accepts : length (accepted (past_of (told t.journal))) ≡ t.accepted
  pub destroyed : is_destroyed (past_of (told t.journal)) ≡ t.closed
  pub few : t.accepted ≤ length (told t.journal)
  pub few_links : t.servers.greatest_link ≤ length (told t.journal)
  pub few_starts : t.servers.started ≤ length (told t.journal)
  pub room : still_to_tell t ≤ room_of t.journal
  pub fits : length (told t.journal) + still_to_tell t ≤ 2 ^ 63
  pub room_ready : length t.rows + deque_len t.ready ≤ deque_capacity t.ready
