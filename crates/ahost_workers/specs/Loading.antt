-- A run of a load with workers: it asks for so many names over a network in memory of its own, and puts a summary.
use Rattle.std.specs.Prelude.{List, [], ℕ}
use Rattle.chan_types.specs.Plans.{Plan}
use Rattle.net_world.specs.Cause.{Rose}
use Rattle.net_world.specs.declared.log.WorldCall.{WorldCall}
use Rattle.resolv_options.specs.Defaults.{plain_values}
use Rattle.run_end.specs.declared.ended.Ended.{Ended}
use Rattle.test_nameserver.specs.Load.{load_zone}
use Rattle.test_nameserver.specs.PeerLog.{IsLogOf}
use Rattle.tool_line.specs.Outside.{OutputTold}
use Rattle.tool_line.specs.declared.ahost.Load.{Load}
use Rattle.ahost_tool.specs.Loading.{asked_by_load, load_setting, over_calls}
use Rattle.ahost_tool.specs.declared.reporting.Report.TheVariants.{Summary}
use Rattle.ahost_workers.specs.Promise.{ComesToEnd, PromiseWith}

-- a run of a load with so many workers, and with callbacks of these scripts
pub record IsLoadRunWith (workers : ℕ) (load : Load) (plans : List Plan) (turns : ℕ) (ended : Ended) (before after : OutputTold) : Type 0 where
  -- What the run's own network told in the end.
  pub told : List WorldCall
  -- It is a network in memory of the load's zone, which loses queries and draws words by the load's seed, and it was called from its start on: so its answers are those that zone and seed make.
  pub network : IsLogOf (load_zone load.names) load.seed told
  -- The promise of a run is kept over it, and before the run it had told nothing.
  pub promise : PromiseWith workers (asked_by_load load plans) load_setting turns ended (over_calls [] before) (over_calls told after)
  -- The waits of such a network don't fail. So a run comes to its summary, where the output doesn't fail in it, or it stalls, or memory is wanting.
  pub completes : ¬ Rose before.faults after.faults → ComesToEnd (Summary load) plain_values ended before after
