-- What a run comes to, by its words.
use Rattle.std.specs.Prelude.{Err, List, Ok, Option, Result, [], ℕ, ◌≡◌, ◌⊎◌}
use Rattle.std.specs.FinMap as finite
use mathlib.Core.List.{IsPrefix}
use Rattle.net_world.specs.Logs.{LogGets}
use Rattle.net_world.specs.declared.log.WorldCall.{WorldCall}
use Rattle.net_addr.specs.declared.addr.Addr.{Addr}
use Rattle.item_list.specs.declared.no_memory.NoMemory.{NoMemory}
use Rattle.channel_model.specs.Course.{serves_from}
use Rattle.channel_session.specs.Sitting.{StandsBehind, moment_of}
use Rattle.channel_table.specs.Calling.{known_by_owner}
use Rattle.run_end.specs.declared.ended.Ended.{Ended}
use Rattle.tool_line.specs.Outside.{Outside, OutputTold}
use Rattle.tool_line.specs.Put.{IsPut, PutsNothing}
use Rattle.tool_line.specs.declared.ending.Exit.TheVariants.{Usage}
use Rattle.acache_tool.specs.Asked.{Asked, setting_for}
use Rattle.acache_tool.specs.Output.{line_at}
use Rattle.acache_tool.specs.Promise.{Promise}
use Rattle.acache_tool.specs.declared.asking.Asker.{Asker}

-- a run whose words ask nothing: it put the usage line, and called no network
pub record IsUnasked (ended : Ended) (before after : OutputTold) : Type 0 where
  pub no_journal : ended.journal ≡ []
  pub no_calls : ended.calls ≡ []
  pub put : IsPut (line_at Usage) Usage ended.status before after

-- memory was wanting before the channel was asked for anything: the server was told, or it wasn't, and nothing was put
pub record IsUnbegun (asked : Asked) (ended : Ended) (before after : Outside) : Type 0 where
  pub no_journal : ended.journal ≡ []
  pub no_calls : ended.calls ≡ []
  pub status : ended.status ≡ 5
  pub told : LogGets (λ calls. IsPrefix calls (serves_from 0 (setting_for asked.server).options.servers)) before.network.log after.network.log
  pub put : PutsNothing before.output after.output

-- a run for what is asked
abbrev pub IsRun : Asked → ℕ → Ended → Outside → Outside → Type 0
IsRun asked turns ended before after = Promise asked turns ended before after ⊎ IsUnbegun asked ended before after

-- a channel with this server that nobody has used, with so many turns, and the server was told; for want of memory it may have been
abbrev pub Begins : Addr → ℕ → Result Asker NoMemory → Option (List WorldCall) → Option (List WorldCall) → Type 0
Begins server turns (Ok asker) old new =
    (asker.alone ≡ record { setting = setting_for server; voice = 0; seen = []; names = finite.empty }) × (asker.calls ≡ []) × (asker.left ≡ turns)
    × StandsBehind 0 0 old (moment_of (known_by_owner asker.alone) asker.session new)
    × LogGets (λ calls. calls ≡ serves_from 0 (setting_for server).options.servers) old new
Begins server turns (Err fault) old new = LogGets (λ calls. IsPrefix calls (serves_from 0 (setting_for server).options.servers)) old new
