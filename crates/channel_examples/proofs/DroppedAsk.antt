-- A callback asks, and nobody obeys: whatever is said of when, and by which of the channel's seats, the journal doesn't obey the orders.
use Rattle.std.proofs.Common.{◌≡◌, ℕ, zero, suc, ◌+◌, ◌≤◌, List, [], ◌∷◌, length, map, Bool, true, false, not, cond, ◌&&◌, refl, ap, subst, arith}
use Rattle.std.specs.Prelude.{IsTrue, filter_map, count_by, sum_by, nat_le}
use Rattle.std.specs.List.{list_all}
use Rattle.std.proofs.lemmas.Bool.{leb-true}
use Rattle.std.proofs.lemmas.List.Sums.{sum_by-cons}
use Rattle.chan_types.specs.Plans.{Plan, stop, ask, blank}
use Rattle.chan_types.specs.declared.command.Command.TheVariants.{Ask}
use Rattle.chan_types.specs.declared.journal.Entry.{Entry}
use Rattle.chan_types.specs.declared.journal.What.TheVariants.{Accept, Cancel, Take, Destroy}
use Rattle.resolv_options.specs.Defaults.{plain_values}
use Rattle.channel_model.specs.Commands.{ObeysOrders, ArePerformed, AllBecame, IsPerformed, Outcome, Performance, asking_of, accepted_for, commanded_by, commands_for, is_before_other_work, is_lost, left, lost, passed, past_at, position_of, positions_left, closing_position}
use Rattle.channel_model.specs.Completion.{taken}
use Rattle.channel_model.specs.Journal.{is_destroyed, past_of}
use Rattle.channel_model.specs.Setting.{Setting}
use Rattle.channel_examples.specs.Words.{channel_with, one_server, ask_x}
use Rattle.channel_model.proofs.Theorems.{each_is_accepted}
use Rattle.channel_examples.proofs.Words.{own, no_orders, always, script_of_steps}
use Rattle.dns_message.specs.NameText as NameText

abbrev pub setting : Setting
setting = channel_with (record plain_values { servers = one_server })

-- it asks for x.test
abbrev pub script : Plan
script = script_of_steps (always (ask ask_x 0) stop stop)

abbrev pub journal : List Entry
journal =
    own (Accept 1 ask_x script)
    ∷ own Cancel
    ∷ own (Take 1)
    ∷ own Destroy
    ∷ []

-- the request that its callback asks
pub asked : filter_map asking_of (commands_for setting journal no_orders 1) ≡ record { spec = ask_x; script = blank 0 } ∷ []
unfolding NameText.units_of
asked = refl

-- of which none was accepted
pub not_accepted : accepted_for 1 journal ≡ []
not_accepted = refl

-- the first request that was performed is the first that was taken
first_request : (p : Performance) (ps : List Performance) → map (λ q. q.request) (p ∷ ps) ≡ 1 ∷ [] → p.request ≡ 1
first_request p ps same = cc same

pub not_obeyed : ObeysOrders setting journal 1 no_orders (closing_position journal) 0 → ⊥
not_obeyed obeys = by_performances obeys.performances obeys.requests_are obeys.performed obeys.lost_are
  where
    by_performances : (ps : List Performance) → map (λ p. p.request) ps ≡ taken (past_of journal) → ArePerformed setting journal 1 no_orders (closing_position journal) ps →
        0 ≡ sum_by (λ p. count_by is_lost p.outcomes) ps → ⊥
    by_performances [] requests performed none = absurd (cc requests)
    by_performances (p ∷ ps) requests performed none =
        let split : sum_by (λ q. count_by is_lost q.outcomes) (p ∷ ps) ≡ count_by is_lost p.outcomes + sum_by (λ q. count_by is_lost q.outcomes) ps =
        sum_by-cons (λ q. count_by is_lost q.outcomes) p ps in
        let here : ◌≡◌ {A = ℕ} (count_by is_lost p.outcomes) 0 = omega (arith, split, none) in
        let accepted = each_is_accepted setting journal (closing_position journal) 1 no_orders p performed.0 here refl in
        let is : p.request ≡ 1 = first_request p ps requests in
        cc (not_accepted, ap (λ n. accepted_for n journal) is, accepted, ap (λ n. filter_map asking_of (commands_for setting journal no_orders n)) is, asked)

-- a position up to 3 isn't behind the Destroy
not_destroyed : (k : ℕ) → k ≤ 3 → IsTrue (is_destroyed (past_at journal k)) → ⊥
not_destroyed zero le h = cc h
not_destroyed (suc zero) le h = cc h
not_destroyed (suc (suc zero)) le h = cc h
not_destroyed (suc (suc (suc zero))) le h = cc h
not_destroyed (suc (suc (suc (suc k)))) le h = omega (arith, le)

-- the seat that took the request destroyed the channel next: behind that its callback's commands come too late
not_late : (outcomes : List Outcome) → AllBecame setting journal 0 (Ask ask_x (blank 0) ∷ []) outcomes → count_by is_lost outcomes ≡ 0 → commanded_by 1 journal ≡ positions_left outcomes →
    IsTrue (list_all (λ outcome. is_before_other_work journal 0 1 (position_of outcome)) outcomes) → ⊥
not_late [] became none entries before = became
not_late (left k ∷ outcomes) became none entries before = cc entries
not_late (lost k ∷ outcomes) became none entries before =
    let split : count_by is_lost (lost k ∷ outcomes) ≡ 1 + count_by is_lost outcomes = sum_by-cons (λ outcome. cond (is_lost outcome) 1 0) (lost k) outcomes in
    omega (arith, split, none)
not_late (passed k ∷ outcomes) became none entries before =
    not_destroyed k (leb-true k 3 (both (nat_le k 3) true (both (nat_le k 3 && true) (list_all (λ outcome. is_before_other_work journal 0 1 (position_of outcome)) outcomes) before).0).0)
    (denied (is_destroyed (past_at journal k)) became.1.1)
  where
    both : (b c : Bool) → (b && c) ≡ true → (b ≡ true) × (c ≡ true)
    both true true h = (refl, refl)
    both true false h = absurd (cc h)
    both false c h = absurd (cc h)

    denied : (b : Bool) → not b ≡ false → b ≡ true
    denied true h = refl
    denied false h = absurd (cc h)

-- so it isn't obeyed behind the Destroy either, where the channel has one seat
pub not_obeyed_late : ObeysOrders setting journal 1 no_orders (length journal) 0 → ⊥
unfolding NameText.units_of
not_obeyed_late obeys = by_performances obeys.performances obeys.requests_are obeys.performed obeys.lost_are
  where
    at_one : (p : Performance) → p.request ≡ 1 → p.seat ≡ 0 → IsPerformed setting journal 1 no_orders (length journal) p → count_by is_lost p.outcomes ≡ 0 → ⊥
    at_one p is_one is_first performed none =
        not_late p.outcomes
        (subst (λ n. AllBecame setting journal 0 (commands_for setting journal no_orders n) p.outcomes) is_one performed.became) none
        (subst (λ n. commanded_by n journal ≡ positions_left p.outcomes) is_one performed.entries_are)
        (subst (λ n. IsTrue (list_all (λ outcome. is_before_other_work journal n 1 (position_of outcome)) p.outcomes)) is_first
        (subst (λ n. IsTrue (list_all (λ outcome. is_before_other_work journal p.seat n (position_of outcome)) p.outcomes)) is_one performed.before_other_work))

    by_performances : (ps : List Performance) → map (λ p. p.request) ps ≡ taken (past_of journal) → ArePerformed setting journal 1 no_orders (length journal) ps →
        0 ≡ sum_by (λ p. count_by is_lost p.outcomes) ps → ⊥
    by_performances [] requests performed none = absurd (cc requests)
    by_performances (p ∷ ps) requests performed none =
        let split : sum_by (λ q. count_by is_lost q.outcomes) (p ∷ ps) ≡ count_by is_lost p.outcomes + sum_by (λ q. count_by is_lost q.outcomes) ps =
        sum_by-cons (λ q. count_by is_lost q.outcomes) p ps in
        let here : ◌≡◌ {A = ℕ} (count_by is_lost p.outcomes) 0 = omega (arith, split, none) in
        let seat : ◌≡◌ {A = ℕ} p.seat 0 = omega (arith, performed.0.seated) in
        at_one p (first_request p ps requests) seat performed.0 here

-- were there seats that took nothing, one of them would have obeyed it
pub obeyed_by_another : ObeysOrders setting journal 8 no_orders (length journal) 0
unfolding NameText.units_of
obeyed_by_another = record {
  performances = record { request = 1; seat = 7; outcomes = passed 4 ∷ [] } ∷ [];
  requests_are = refl;
  performed = (
    record {
      seated = omega arith;
      became = (omega arith, (omega arith, refl), tt);
      entries_are = refl;
      of_seat = refl;
      in_time = refl;
      behind_take = refl;
      before_other_work = refl;
    },
    tt,
  );
  givers = refl;
  lost_are = refl;
}
