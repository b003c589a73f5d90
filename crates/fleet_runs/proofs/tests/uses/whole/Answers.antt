use Rattle.std.proofs.Common.{◌∙◌, ◌++◌, ◌∷◌, [], ap, subst, sym}
use Rattle.std.specs.List.{AllByRecursion}
use Rattle.std.specs.Option.{option_to_list}
use Rattle.channel_fleet.specs.Staying.{AllBerthsStay}
use Rattle.channel_fleet.specs.Views.{IsAtFleet}
use Rattle.channel_fleet.proofs.Theorems.{all_stay_none, fleet_may_finish, helms_stay_none, last_at, last_stays}
use Rattle.fleet_runs.proofs.tests.uses.whole.Goals as goal

pub used-as_said-requires-clause-second : goal.used-as_said-requires-clause-second
used-as_said-requires-clause-second g c =
    let last = c.pop.ensures.items ∙ ap (λ o. c.pop.new.self.items ++ option_to_list o) c.unwrap-second.ensures in
    (last_at c.in_ok-fleet.fleet c.pop.new.self.items c.unwrap-second.result (subst (AllByRecursion (IsAtFleet c.in_ok-fleet.fleet)) last c.in_ok-fleet.ensures.at)).1

pub used-as_said-requires-clause-first : goal.used-as_said-requires-clause-first
used-as_said-requires-clause-first g c =
    let last = c.pop.ensures.items ∙ ap (λ o. c.pop.new.self.items ++ option_to_list o) c.unwrap-second.ensures in
    let next = c.pop-2.ensures.items ∙ ap (λ o. c.pop-2.new.self.items ++ option_to_list o) c.unwrap-first.ensures in
    (last_at c.in_ok-fleet.fleet c.pop-2.new.self.items c.unwrap-first.result (subst (AllByRecursion (IsAtFleet c.in_ok-fleet.fleet)) next (last_at c.in_ok-fleet.fleet c.pop.new.self.items c.unwrap-second.result (subst (AllByRecursion (IsAtFleet c.in_ok-fleet.fleet)) last c.in_ok-fleet.ensures.at)).0)).1

pub finish-requires : goal.finish-requires
finish-requires g c =
    let last = c.pop.ensures.items ∙ ap (λ o. c.pop.new.self.items ++ option_to_list o) c.unwrap-second.ensures in
    let next = c.pop-2.ensures.items ∙ ap (λ o. c.pop-2.new.self.items ++ option_to_list o) c.unwrap-first.ensures in
    let rest = c.pop-2.new.self.items in
    let one = last_stays rest rest c.unwrap-first.result c.used-as_said.new.first (all_stay_none rest) c.used-as_said.ensures.first in
    let both = last_stays (rest ++ c.unwrap-first.result ∷ []) (rest ++ c.used-as_said.new.first ∷ []) c.unwrap-second.result c.used-as_said.new.second one c.used-as_said.ensures.second in
    let all = ap (λ l. l ++ c.unwrap-second.result ∷ []) next in
    fleet_may_finish c.push_reserved-2.new.self.items c.in_ok-fleet.helms.items c.in_ok-fleet.ensures
    (subst (λ l. AllBerthsStay l c.push_reserved-2.new.self.items) (sym (last ∙ all)) (subst (AllBerthsStay ((rest ++ c.unwrap-first.result ∷ []) ++ c.unwrap-second.result ∷ [])) (sym (c.push_reserved-2.ensures.items ∙ ap (λ l. l ++ c.used-as_said.new.second ∷ []) c.push_reserved.ensures.items)) both))
    (helms_stay_none c.in_ok-fleet.helms.items)
