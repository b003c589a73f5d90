-- A run of a load: it asks for so many names over a network in memory of its own, and puts a summary.
use Rattle.std.specs.List.{range_with_len}
use Rattle.std.specs.Prelude.{List, None, Some, [], codes, decimal, false, map, true, ℕ, ◌*◌, ◌+◌, ◌++◌, ◌<◌, ◌≤◌}
use Rattle.chan_types.specs.Plans.{Plan}
use Rattle.chan_types.specs.declared.orders.Orders.{Orders}
use Rattle.chan_types.specs.declared.spec.Spec.{Spec}
use Rattle.chan_types.specs.declared.spec.Spec.TheVariants.{Address}
use Rattle.channel_model.specs.Setting.{Setting}
use Rattle.channel_model.specs.Turn.{received_in}
use Rattle.channel_progress.specs.Allowed.{attempts_allowed}
use Rattle.net_addr.specs.declared.addr.Family.TheVariants.{V4}
use Rattle.net_world.specs.Cause.{Rose}
use Rattle.net_world.specs.declared.log.WorldCall.{WorldCall}
use Rattle.resolv_options.specs.Defaults.{plain_values}
use Rattle.test_nameserver.specs.Load.{load_zone}
use Rattle.test_nameserver.specs.PeerLog.{IsLogOf}
use Rattle.tool_line.specs.Outside.{Outside, OutputTold}
use Rattle.tool_line.specs.Words.{Text}
use Rattle.tool_line.specs.declared.ahost.Load.{Load}
use Rattle.ahost_tool.specs.Asked.{Asked, asked_of}
use Rattle.ahost_tool.specs.Promise.{IsComplete, Promise}
use Rattle.run_end.specs.declared.ended.Ended.{Ended}
use Rattle.ahost_tool.specs.declared.reporting.Report.TheVariants.{Summary}

-- the name of the host with this number, as it is asked for
abbrev pub host_text : ℕ → Text
host_text number = codes "h" ++ decimal number ++ codes ".load.test."

-- the request for it: its IPv4 addresses, as they come
abbrev pub host_spec : ℕ → Spec
host_spec number = Address (host_text number) V4 true

-- the requests for so many hosts
abbrev pub host_specs : ℕ → List Spec
host_specs count = map host_spec (range_with_len 0 count)

-- callbacks command nothing
abbrev pub no_orders : Orders
no_orders = record { follow = false; first = false; quit = false }

-- what a load asks, with callbacks of these scripts
abbrev pub asked_by_load : Load → List Plan → Asked
asked_by_load load plans = asked_of (Summary load) (host_specs load.names) plans no_orders None

-- the setting of its channel: the default options, with one server, and no host
abbrev pub load_setting : Setting
load_setting = record { options = plain_values; hosts = [] }

-- a load that there is a zone and a plan for
pub record IsWithinLimits (load : Load) : Type 0 where
  pub few_names : load.names ≤ 4096
  pub small_seed : load.seed ≤ 65535

-- what a network has told in all that counts no failed wait, and an output
abbrev pub over_calls : List WorldCall → OutputTold → Outside
over_calls calls output = record { network = record { log = Some calls; wait_faults = 0 }; output = output }

-- a run of a load, with callbacks of these scripts
pub record IsLoadRun (load : Load) (plans : List Plan) (turns : ℕ) (ended : Ended) (before after : OutputTold) : Type 0 where
  -- What the run's own network told in the end.
  pub told : List WorldCall
  -- It is a network in memory of the load's zone, which loses queries and draws words by the load's seed, and it was called from its start on: so its answers are those that zone and seed make.
  pub network : IsLogOf (load_zone load.names) load.seed told
  -- The promise of a run is kept over it, and before the run it had told nothing.
  pub promise : Promise (asked_by_load load plans) load_setting turns ended (over_calls [] before) (over_calls told after)
  -- Such a network wakes in time, and its waits don't fail. So a run that is given more turns than two for each attempt that its requests may spend and one for each item that was received comes to its summary, where the output doesn't fail in it, unless memory is wanting.
  pub completes : 2 * attempts_allowed load_setting ended.journal + received_in told < turns → ¬ Rose before.faults after.faults → IsComplete (Summary load) plain_values ended before after
