-- Runs of a load: that words give a small one, and how its promise is kept.
use Rattle.std.proofs.Common.{◌≡◌, ◌≢◌, ◌∙◌, ℕ, ◌+◌, ◌*◌, ◌≤◌, ◌<◌, inl, inr, sym, ◌&&◌, Bool, true, false, cond, nat_le, List, [], ◌∷◌, ◌++◌, Option, Some, None, IfSome, option_map, option_and_then, refl, subst, arith, leb-true, codes}
use Rattle.std.proofs.lemmas.Bool.{and_parts}
use Rattle.std.proofs.lemmas.List.FromFn.{map-range_with_len_more}
use Rattle.std.specs.Str.Parse.{digits_value}
use Rattle.chan_types.specs.Plans.{Plan}
use Rattle.chan_types.specs.declared.spec.Spec.{Spec}
use Rattle.channel_model.specs.Setting.{Setting}
use Rattle.channel_model.specs.Turn.{received_in}
use Rattle.channel_progress.specs.Allowed.{attempts_allowed}
use Rattle.hosts_file.specs.declared.hosts.HostLine.{HostLine}
use Rattle.resolv_options.specs.Defaults.{plain_values}
use Rattle.resolv_options.specs.Values.{OptionValues}
use Rattle.test_nameserver.specs.Load.{load_zone}
use Rattle.net_world.specs.Cause.{Rose}
use Rattle.net_world.specs.declared.log.WorldCall.{WorldCall}
use Rattle.owner_laws.specs.Sessions.{longest_slice}
use Rattle.test_nameserver.specs.Peer.{PeerState, at_start}
use Rattle.test_nameserver.specs.PeerLog.{IsLogOf}
use Rattle.test_nameserver.specs.PeerOrigin.{origin_of}
use Rattle.test_nameserver.proofs.Theorems.{log_of_none, log_told}
use Rattle.tool_line.specs.Ahost.{AhostAsks, load_in}
use Rattle.tool_line.specs.Lookup.{Lookup, lookup, read_if, read_or, value_under}
use Rattle.tool_line.specs.Outside.{OutputTold}
use Rattle.tool_line.specs.Put.{PutsText}
use Rattle.tool_line.specs.Values.{is_plain_number, number_in, within}
use Rattle.tool_line.specs.Words.{Text}
use Rattle.tool_line.specs.declared.ahost.AhostAsk.{AhostAsk}
use Rattle.tool_line.specs.declared.ahost.Load.{Load}
use Rattle.tool_line.specs.declared.ending.Exit.TheVariants.{Failure, OutOfMemory, Stalled, Success, WaitFault}
use Rattle.run_end.specs.Ends.{IsRunEnd}
use Rattle.ahost_tool.specs.Asked.{asked_of}
use Rattle.ahost_tool.specs.Loading.{IsLoadRun, IsWithinLimits, asked_by_load, host_spec, host_specs, load_setting, no_orders, over_calls}
use Rattle.ahost_tool.specs.Page.{text_at}
use Rattle.ahost_tool.specs.Promise.{IsComplete, Promise}
use Rattle.owner_session.specs.Promise.{IsGivenTime, IsTraffic}
use Rattle.run_end.specs.declared.ended.Ended.{Ended}
use Rattle.ahost_tool.specs.declared.reporting.Report.TheVariants.{Summary}
use Rattle.ahost_tool.proofs.NetworkLemmas.{none_failed, wakes}
use Rattle.ahost_tool.proofs.PromiseLemmas.{promise_early}
use Rattle.ahost_tool.proofs.QuietLemmas.{course_quiet}

-- ---- requests

-- with the request for one host more
pub specs_more : (count : ℕ) → host_specs (count + 1) ≡ host_specs count ++ host_spec count ∷ []
specs_more count = map-range_with_len_more host_spec 0 count count (omega arith)

-- ---- words ask for a load within its limits

same_item : {A : Type 0} (x y : A) → Some x ≡ Some y → x ≡ y
same_item x y is = cc

-- a number that was read is not above the greatest that is read
pub number_small : (least most : ℕ) (word : Text) (number : ℕ) → number_in least most word ≡ Some number → number ≤ most
number_small least most word number is = by_digits (is_plain_number word) is
  where
    by_bounds : (test : Bool) → (nat_le least (digits_value 10 word) && nat_le (digits_value 10 word) most) ≡ test → cond test (Some (digits_value 10 word)) None ≡ Some number → number ≤ most
    by_bounds true both fits =
        let small : digits_value 10 word ≤ most = leb-true _ _ (and_parts (nat_le least (digits_value 10 word)) (nat_le (digits_value 10 word) most) both).1 in
        subst (λ n. n ≤ most) (same_item (digits_value 10 word) number fits) small
    by_bounds false both fits = absurd (cc fits)

    by_digits : (test : Bool) → cond test (within least most (digits_value 10 word)) None ≡ Some number → number ≤ most
    by_digits true fits = by_bounds (nat_le least (digits_value 10 word) && nat_le (digits_value 10 word) most) refl fits
    by_digits false fits = absurd (cc fits)

-- the seed is small
seed_small : (value : Option Text) (seed : ℕ) → read_or (number_in 0 65535) 0 value ≡ Some seed → seed ≤ 65535
seed_small None seed is = subst (λ n. n ≤ 65535) (same_item 0 seed is) (omega arith)
seed_small (Some word) seed is = number_small 0 65535 word seed is

-- the names are few
names_few : (value : Option Text) (names : Option ℕ) → read_if (number_in 1 4096) value ≡ Some names → IfSome names (λ n. n ≤ 4096)
names_few None names is = subst (λ found. IfSome found (λ n. n ≤ 4096)) (same_item None names is) tt
names_few (Some word) names is = by (number_in 1 4096 word) refl is
  where
    by : (found : Option ℕ) → number_in 1 4096 word ≡ found → option_map Some found ≡ Some names → IfSome names (λ n. n ≤ 4096)
    by None same step = absurd (cc step)
    by (Some number) same step = subst (λ found. IfSome found (λ n. n ≤ 4096)) (same_item (Some number) names step) (number_small 1 4096 word number same)

-- the load of a seed and so many names
abbrev load_of : ℕ → ℕ → Load
load_of seed count = record { names = count; seed = seed }

loads_within : (seed : ℕ) (names : Option ℕ) (load : Option Load) → seed ≤ 65535 → IfSome names (λ n. n ≤ 4096) → option_map (load_of seed) names ≡ load → IfSome load IsWithinLimits
loads_within seed None load small few is = subst (λ found. IfSome found IsWithinLimits) is tt
loads_within seed (Some count) load small few is = subst (λ found. IfSome found IsWithinLimits) is (record { few_names = few; small_seed = small })

load_within : (under : Lookup) (load : Option Load) → load_in under ≡ Some load → IfSome load IsWithinLimits
load_within under load is = by_names (read_if (number_in 1 4096) (value_under under (codes "load"))) refl is
  where
    by_seed : (names : Option ℕ) → IfSome names (λ n. n ≤ 4096) → (seed : Option ℕ) → read_or (number_in 0 65535) 0 (value_under under (codes "seed")) ≡ seed →
        option_map (λ s. option_map (load_of s) names) seed ≡ Some load → IfSome load IsWithinLimits
    by_seed names few None same step = absurd (cc step)
    by_seed names few (Some seed) same step =
        loads_within seed names load (seed_small (value_under under (codes "seed")) seed same) few (same_item (option_map (load_of seed) names) load step)

    by_names : (names : Option (Option ℕ)) → read_if (number_in 1 4096) (value_under under (codes "load")) ≡ names →
        option_and_then (λ found. option_map (λ s. option_map (load_of s) found) (read_or (number_in 0 65535) 0 (value_under under (codes "seed")))) names ≡ Some load → IfSome load IsWithinLimits
    by_names None same step = absurd (cc step)
    by_names (Some names) same step =
        by_seed names (names_few (value_under under (codes "load")) names same) (read_or (number_in 0 65535) 0 (value_under under (codes "seed"))) refl step

pub asked_within : (words : List Text) (ask : AhostAsk) → AhostAsks words ask → IfSome ask.load IsWithinLimits
asked_within words ask asks = load_within (lookup asks.uses) ask.load asks.say.load

-- what holds of each load holds of that which is asked for, if there is one
pub of_each : (holds : Load → Type 0) → ((load : Load) → holds load) → (load : Option Load) → IfSome load holds
of_each holds each None = tt
of_each holds each (Some load) = each load

-- ---- its promise

abbrev setting_of : OptionValues → List HostLine → Setting
setting_of options hosts = record { options = options; hosts = hosts }

-- where the promise is kept over a log of the load's zone and seed, a run that is given time comes to its summary: such a network wakes in time and its waits don't fail
load_completes : (load : Load) (plans : List Plan) (turns : ℕ) (ended : Ended) (told : List WorldCall) (before after : OutputTold) → IsLogOf (load_zone load.names) load.seed told →
    Promise (asked_by_load load plans) load_setting turns ended (over_calls [] before) (over_calls told after) → 2 * attempts_allowed load_setting ended.journal + received_in told < turns → ¬ Rose before.faults after.faults →
    IsComplete (Summary load) plain_values ended before after
load_completes load plans turns ended told before after network promise enough quiet = by promise.ends
  where
    traffic : IsTraffic load_setting None turns promise.end ended.journal told
    traffic = subst (IsTraffic load_setting None turns promise.end ended.journal) (same_item promise.traffic.0 told (sym promise.traffic.1)) promise.traffic.2

    served : promise.end ≢ OutOfMemory → IsComplete (Summary load) plain_values ended before after
    served other =
        let completes = subst (λ calls. IsGivenTime load_setting turns ended.journal calls → ¬ Rose before.faults after.faults → IsComplete (Summary load) plain_values ended before after)
        (same_item promise.completes.0 told (sym promise.completes.1)) promise.completes.2 in
        completes
        (record {
          enough = enough;
          wakes = wakes told (at_start (load_zone load.names) load.seed) network.last network.made tt (course_quiet load_setting 0 longest_slice ended.journal told traffic.made 0 (traffic.course other));
          waited = none_failed told (at_start (load_zone load.names) load.seed) network.last network.made;
        })
        quiet

    by : IsRunEnd promise.end → IsComplete (Summary load) plain_values ended before after
    by (inl (inl is)) = served (λ out. absurd (let h : Success ≡ OutOfMemory = sym is ∙ out in cc h))
    by (inl (inr is)) = served (λ out. absurd (let h : Failure ≡ OutOfMemory = sym is ∙ out in cc h))
    by (inr (inl is)) = served (λ out. absurd (let h : WaitFault ≡ OutOfMemory = sym is ∙ out in cc h))
    by (inr (inr (inl is))) = served (λ out. absurd (let h : Stalled ≡ OutOfMemory = sym is ∙ out in cc h))
    by (inr (inr (inr is))) =
        inr (let h : PutsText None OutOfMemory ended.status before after = subst (λ e. PutsText (text_at (Summary load) plain_values ended.journal ended.calls e) e ended.status before after) is promise.put.told in h.0)

-- it is kept where a channel was asked of this setting, over a network that was made so, and that is in the end as it was made
pub load_run : (load : Load) (plans : List Plan) (turns : ℕ) (ended : Ended) (specs : List Spec) (options : OptionValues) (hosts : List HostLine) (made left : PeerState) (before after : OutputTold) →
    options ≡ plain_values → specs ≡ host_specs load.names → made ≡ at_start (load_zone load.names) load.seed → hosts ≡ [] →
    Promise (asked_of (Summary load) specs plans no_orders None) (setting_of options hosts) turns ended (over_calls made.log before) (over_calls left.log after) → origin_of left ≡ origin_of made → IsLogOf left.zone left.seed left.log →
    IsLoadRun load plans turns ended before after
load_run load plans turns ended specs options hosts made left before after options_are specs_are starts no_hosts promise same log =
    let network : IsLogOf (load_zone load.names) load.seed left.log = log_told (load_zone load.names) load.seed made left starts same log in
    let kept : Promise (asked_by_load load plans) load_setting turns ended (over_calls [] before) (over_calls left.log after) =
    subst (λ m. Promise (asked_by_load load plans) load_setting turns ended (over_calls m.log before) (over_calls left.log after)) starts
    (subst (λ s. Promise (asked_of (Summary load) s plans no_orders None) load_setting turns ended (over_calls made.log before) (over_calls left.log after)) specs_are
    (subst (λ o. Promise (asked_of (Summary load) specs plans no_orders None) (setting_of o []) turns ended (over_calls made.log before) (over_calls left.log after)) options_are
    (subst (λ h. Promise (asked_of (Summary load) specs plans no_orders None) (setting_of options h) turns ended (over_calls made.log before) (over_calls left.log after)) no_hosts promise))) in
    record { told = left.log; network = network; promise = kept; completes = load_completes load plans turns ended left.log before after network kept }

-- and where memory was wanting before there was a channel
pub early_load : (load : Load) (plans : List Plan) (turns : ℕ) (output : OutputTold) → IsLoadRun load plans turns (record { status = 5; journal = []; calls = [] }) output output
early_load load plans turns output = record {
  told = [];
  network = log_of_none (load_zone load.names) load.seed;
  promise = promise_early (asked_by_load load plans) load_setting turns (over_calls [] output);
  completes = λ enough quiet. inr refl;
}
