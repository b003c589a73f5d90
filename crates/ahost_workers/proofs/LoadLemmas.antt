-- Runs of a load with workers: how their promise is kept.
use Rattle.std.proofs.Common.{◌≡◌, ℕ, List, [], None, subst, arith}
use Rattle.chan_types.specs.Plans.{Plan}
use Rattle.chan_types.specs.declared.spec.Spec.{Spec}
use Rattle.channel_model.specs.Setting.{Setting}
use Rattle.hosts_file.specs.declared.hosts.HostLine.{HostLine}
use Rattle.net_world.specs.Cause.{Rose}
use Rattle.resolv_options.specs.Defaults.{plain_values}
use Rattle.resolv_options.specs.Values.{OptionValues}
use Rattle.run_end.specs.declared.ended.Ended.{Ended}
use Rattle.test_nameserver.specs.Load.{load_zone}
use Rattle.test_nameserver.specs.Peer.{PeerState, at_start}
use Rattle.test_nameserver.specs.PeerLog.{IsLogOf}
use Rattle.test_nameserver.specs.PeerOrigin.{origin_of}
use Rattle.test_nameserver.proofs.Theorems.{log_of_none, log_told}
use Rattle.tool_line.specs.Outside.{OutputTold}
use Rattle.tool_line.specs.declared.ahost.Load.{Load}
use Rattle.ahost_tool.specs.Asked.{asked_of}
use Rattle.ahost_tool.specs.Loading.{asked_by_load, host_specs, load_setting, no_orders, over_calls}
use Rattle.ahost_tool.specs.declared.reporting.Report.TheVariants.{Summary}
use Rattle.ahost_workers.specs.Loading.{IsLoadRunWith}
use Rattle.ahost_workers.specs.Promise.{PromiseWith}
use Rattle.ahost_workers.proofs.PromiseLemmas.{promise_early}

abbrev setting_of : OptionValues → List HostLine → Setting
setting_of options hosts = record { options = options; hosts = hosts }

-- a count of failures that stays 0 didn't rise
never_rose : Rose 0 0 → ⊥
never_rose rose = omega (arith, rose (omega arith))

-- a channel was asked of this setting, over a network that was made so, and that is in the end as it was made
pub load_run : (workers : ℕ) (load : Load) (plans : List Plan) (turns : ℕ) (ended : Ended) (specs : List Spec) (options : OptionValues) (hosts : List HostLine) (made left : PeerState) (before after : OutputTold) →
    options ≡ plain_values → specs ≡ host_specs load.names → made ≡ at_start (load_zone load.names) load.seed → hosts ≡ [] →
    PromiseWith workers (asked_of (Summary load) specs plans no_orders None) (setting_of options hosts) turns ended (over_calls made.log before) (over_calls left.log after) → origin_of left ≡ origin_of made → IsLogOf left.zone left.seed left.log →
    IsLoadRunWith workers load plans turns ended before after
load_run workers load plans turns ended specs options hosts made left before after options_are specs_are starts no_hosts promise same log =
    let network : IsLogOf (load_zone load.names) load.seed left.log = log_told (load_zone load.names) load.seed made left starts same log in
    let kept : PromiseWith workers (asked_by_load load plans) load_setting turns ended (over_calls [] before) (over_calls left.log after) =
    subst (λ m. PromiseWith workers (asked_by_load load plans) load_setting turns ended (over_calls m.log before) (over_calls left.log after)) starts
    (subst (λ s. PromiseWith workers (asked_of (Summary load) s plans no_orders None) load_setting turns ended (over_calls made.log before) (over_calls left.log after)) specs_are
    (subst (λ o. PromiseWith workers (asked_of (Summary load) specs plans no_orders None) (setting_of o []) turns ended (over_calls made.log before) (over_calls left.log after)) options_are
    (subst (λ h. PromiseWith workers (asked_of (Summary load) specs plans no_orders None) (setting_of options h) turns ended (over_calls made.log before) (over_calls left.log after)) no_hosts promise))) in
    record { told = left.log; network = network; promise = kept; completes = kept.completes never_rose }

-- memory was wanting before there was a channel
pub early_load : (workers : ℕ) (load : Load) (plans : List Plan) (turns : ℕ) (output : OutputTold) → IsLoadRunWith workers load plans turns (record { status = 5; journal = []; calls = [] }) output output
early_load workers load plans turns output =
    let kept = promise_early workers turns (asked_by_load load plans) load_setting (over_calls [] output) in
    record { told = []; network = log_of_none (load_zone load.names) load.seed; promise = kept; completes = kept.completes never_rose }
