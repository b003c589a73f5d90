-- What a replay keeps beside its table: the keys of the servers, which the table doesn't tell.
use Rattle.std.specs.Prelude.{◌≡◌}
use Rattle.channel_model.specs.Journal.{past_of}
use Rattle.channel_model.specs.Seen.{Seen}
use Rattle.channel_model.specs.Servers.{greatest_key, servers_at}
use Rattle.channel_table.specs.Tokens.{seen}
use Rattle.journal_replay.specs.declared.keys.Keys.{Keys}
use Rattle.journal_replay.specs.declared.replay.Replay.{Replay}

-- the servers have the keys that the table's journal has given them
pub record KnowsKeys (keys : Keys) (table : Seen) : Type 0 where
  pub list : keys.list ≡ servers_at table.setting (past_of table.journal)
  pub greatest : keys.greatest ≡ greatest_key table.setting (past_of table.journal)

-- so they have in a replay, and queries have the case that its setting says
pub record IsKept (replay : Replay) : Type 0 where
  pub draws : replay.draws ≡ replay.table.setting.options.flags.mix
  pub keys : KnowsKeys replay.keys (seen replay.table)
