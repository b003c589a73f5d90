-- Calls through a fleet's passes leave them settled, and a new fleet whose passes and helms stayed so may be finished.
use Rattle.std.proofs.Common.{◌≡◌, ◌∙◌, ℕ, Bool, List, [], ◌∷◌, ◌++◌, Result, map, refl, arith}
use Rattle.std.specs.List.{AllByRecursion}
use Rattle.atomic_table.specs.Seated.{TableId}
use Rattle.chan_types.specs.declared.spec.Spec.{Spec}
use Rattle.channel_fleet.specs.Calling.{Asks, CallsEach, ChangesAt, ShowsBerth}
use Rattle.channel_fleet.specs.Finishing.{EachMayFinish, MayFinish}
use Rattle.channel_fleet.specs.Making.{AreNewChannels, IsNewFleet}
use Rattle.channel_fleet.specs.Staying.{AllBerthsStay, AllHelmsStay, BerthsStay}
use Rattle.channel_fleet.specs.Views.{BerthView, HelmView, IsAtFleet, first_berths, later_berths, passes_with}
use Rattle.channel_fleet.specs.declared.asked.Asked.{Asked}
use Rattle.channel_fleet.specs.declared.setup.Setup.{Setup}
use Rattle.channel_fleet.specs.declared.shown.Shown.{Shown}
use Rattle.channel_model.specs.Meanings.{Cancels, Destroys}
use Rattle.channel_model.specs.declared.answers.Refused.{Refused}
use Rattle.completion_ticket.specs.States.{CallbackState}
use Rattle.shared_channel.specs.Staying.{AllStaySettled, StaysSettled}
use Rattle.shared_channel.proofs.Theorems.{may_finish, stays_more, stays_none}
use Rattle.channel_fleet.proofs.UseLemmas.{uses_ask, uses_cancels, uses_destroys, uses_show, uses_stay}

-- berths to which nothing happens, and berths to which more does
pub berths_stay_none : (berths : List BerthView) → BerthsStay berths berths
berths_stay_none [] = tt
berths_stay_none (b ∷ bs) = (stays_none b.pass, berths_stay_none bs)

pub berths_stay_more : (olds middles news : List BerthView) → BerthsStay olds middles → BerthsStay middles news → BerthsStay olds news
berths_stay_more [] [] news first more = more
berths_stay_more [] (m ∷ ms) news first more = absurd first
berths_stay_more (o ∷ os) [] news first more = absurd first
berths_stay_more (o ∷ os) (m ∷ ms) [] first more = absurd more
berths_stay_more (o ∷ os) (m ∷ ms) (n ∷ ns) first more = (stays_more o.pass m.pass n.pass first.0 more.0, berths_stay_more os ms ns first.1 more.1)

-- each call of a caller
pub stays_ask : (channels : ℕ) (spec : Spec) (callback : CallbackState) (answer : Result Asked (Refused CallbackState)) (old new : List BerthView) → Asks channels spec callback answer old new → BerthsStay old new
stays_ask channels spec callback answer old new asks = uses_stay old new (uses_ask channels spec callback answer old new asks)

pub stays_cancels : (answers : List ℕ) (old new : List BerthView) → CallsEach Cancels answers old new → BerthsStay old new
stays_cancels answers old new calls = uses_stay old new (uses_cancels answers old new calls)

pub stays_destroys : (answers : List Bool) (old new : List BerthView) → CallsEach Destroys answers old new → BerthsStay old new
stays_destroys answers old new calls = uses_stay old new (uses_destroys answers old new calls)

pub stays_show : (channel : ℕ) (shown : Shown) (old new : List BerthView) → ChangesAt channel (ShowsBerth shown) old new → BerthsStay old new
stays_show channel shown old new changes = uses_stay old new (uses_show channel shown old new changes)

-- of the callers the last one's berths were used, and those before it stayed
pub last_stays : (rest news : List (List BerthView)) (old new : List BerthView) → AllBerthsStay rest news → BerthsStay old new → AllBerthsStay (rest ++ old ∷ []) (news ++ new ∷ [])
last_stays [] [] old new others one = (one, tt)
last_stays [] (n ∷ ns) old new others one = absurd others
last_stays (o ∷ os) [] old new others one = absurd others
last_stays (o ∷ os) (n ∷ ns) old new others one = (others.0, last_stays os ns old new others.1 one)

pub all_stay_none : (passes : List (List BerthView)) → AllBerthsStay passes passes
all_stay_none [] = tt
all_stay_none (p ∷ ps) = (berths_stay_none p, all_stay_none ps)

pub helms_stay_none : (helms : List HelmView) → AllHelmsStay helms helms
helms_stay_none [] = tt
helms_stay_none (h ∷ hs) = (stays_none h.caller, stays_none h.turner, helms_stay_none hs)

-- the passes of one channel
passes_stay : (olds news : List BerthView) (helm now : HelmView) → BerthsStay olds news → StaysSettled helm.caller now.caller → StaysSettled helm.turner now.turner → AllStaySettled (passes_with olds helm) (passes_with news now)
passes_stay [] [] helm now berths caller turner = (caller, (turner, tt))
passes_stay [] (n ∷ ns) helm now berths caller turner = absurd berths
passes_stay (o ∷ os) [] helm now berths caller turner = absurd berths
passes_stay (o ∷ os) (n ∷ ns) helm now berths caller turner = (berths.0, passes_stay os ns helm now berths.1 caller turner)

firsts_stay : (olds news : List (List BerthView)) → AllBerthsStay olds news → BerthsStay (first_berths olds) (first_berths news)
firsts_stay [] [] stay = tt
firsts_stay [] (n ∷ ns) stay = absurd stay
firsts_stay (o ∷ os) [] stay = absurd stay
firsts_stay ([] ∷ os) ([] ∷ ns) stay = firsts_stay os ns stay.1
firsts_stay ([] ∷ os) ((y ∷ ys) ∷ ns) stay = absurd stay.0
firsts_stay ((x ∷ xs) ∷ os) ([] ∷ ns) stay = absurd stay.0
firsts_stay ((x ∷ xs) ∷ os) ((y ∷ ys) ∷ ns) stay = (stay.0.0, firsts_stay os ns stay.1)

laters_stay : (olds news : List (List BerthView)) → AllBerthsStay olds news → AllBerthsStay (map later_berths olds) (map later_berths news)
laters_stay [] [] stay = tt
laters_stay [] (n ∷ ns) stay = absurd stay
laters_stay (o ∷ os) [] stay = absurd stay
laters_stay ([] ∷ os) ([] ∷ ns) stay = (tt, laters_stay os ns stay.1)
laters_stay ([] ∷ os) ((y ∷ ys) ∷ ns) stay = absurd stay.0
laters_stay ((x ∷ xs) ∷ os) ([] ∷ ns) stay = absurd stay.0
laters_stay ((x ∷ xs) ∷ os) ((y ∷ ys) ∷ ns) stay = (stay.0.1, laters_stay os ns stay.1)

-- they are at their fleet still
pub one_at : (fleet : List TableId) (old new : List BerthView) → BerthsStay old new → IsAtFleet fleet old → IsAtFleet fleet new
one_at fleet old new stay at = same old new stay ∙ at
  where
    same : (os ns : List BerthView) → BerthsStay os ns → map (λ (b : BerthView). b.pass.lock) ns ≡ map (λ (b : BerthView). b.pass.lock) os
    same [] [] each = refl
    same [] (n ∷ ns) each = absurd each
    same (o ∷ os) [] each = absurd each
    same (o ∷ os) (n ∷ ns) each = λ i. (each.0.same i).lock ∷ same os ns each.1 i

pub all_at_still : (fleet : List TableId) (olds news : List (List BerthView)) → AllBerthsStay olds news → AllByRecursion (IsAtFleet fleet) olds → AllByRecursion (IsAtFleet fleet) news
all_at_still fleet [] [] stay at = tt
all_at_still fleet [] (n ∷ ns) stay at = absurd stay
all_at_still fleet (o ∷ os) [] stay at = absurd stay
all_at_still fleet (o ∷ os) (n ∷ ns) stay at = (one_at fleet o n stay.0 at.0, all_at_still fleet os ns stay.1 at.1)

each_may_finish : (callers : ℕ) (setups : List Setup) (locks : List TableId) (olds news : List (List BerthView)) (helms nows : List HelmView) → AreNewChannels callers setups locks olds helms → AllBerthsStay olds news → AllHelmsStay helms nows → EachMayFinish locks news nows
each_may_finish callers [] [] olds news [] [] new stay stand = tt
each_may_finish callers [] [] olds news [] (n ∷ ns) new stay stand = absurd stand
each_may_finish callers [] [] olds news (h ∷ hs) nows new stay stand = absurd new
each_may_finish callers [] (l ∷ ls) olds news helms nows new stay stand = absurd new
each_may_finish callers (s ∷ ss) [] olds news helms nows new stay stand = absurd new
each_may_finish callers (s ∷ ss) (l ∷ ls) olds news [] nows new stay stand = absurd new
each_may_finish callers (s ∷ ss) (l ∷ ls) olds news (h ∷ hs) [] new stay stand = absurd stand
each_may_finish callers (s ∷ ss) (l ∷ ls) olds news (h ∷ hs) (n ∷ ns) new stay stand =
    let one = may_finish (passes_with (first_berths news) n) new.0.made (omega arith) (passes_stay (first_berths olds) (first_berths news) h n (firsts_stay olds news stay) stand.0 stand.1) in
    (one.0, one.1, each_may_finish callers ss ls (map later_berths olds) (map later_berths news) hs ns new.1 (laters_stay olds news stay) stand.2)

-- so a fleet may be finished
pub fleet_may_finish : {setups : List Setup} {callers : ℕ} {fleet : List TableId} {olds : List (List BerthView)} {helms : List HelmView} (news : List (List BerthView)) (nows : List HelmView) → IsNewFleet setups callers fleet olds helms → AllBerthsStay olds news → AllHelmsStay helms nows → MayFinish fleet news nows
fleet_may_finish {setups} {callers} {fleet} {olds} {helms} news nows new stay stand = record {
  at = all_at_still fleet olds news stay new.at;
  each = each_may_finish callers setups fleet olds news helms nows new.channels stay stand;
}

-- the last caller's berths are at the fleet, as those of the others are
pub last_at : (fleet : List TableId) (rest : List (List BerthView)) (last : List BerthView) → AllByRecursion (IsAtFleet fleet) (rest ++ last ∷ []) → AllByRecursion (IsAtFleet fleet) rest × IsAtFleet fleet last
last_at fleet [] last each = (tt, each.0)
last_at fleet (r ∷ rs) last each = let more = last_at fleet rs last each.1 in ((each.0, more.0), more.1)
