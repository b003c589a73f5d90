-- Commands that stand where they may not: before the Take, or on the command of a request that wasn't taken.
use Rattle.std.proofs.Common.{◌≡◌, ℕ, List, [], ◌∷◌, map, Bool, true, false, ◌&&◌, refl, sym, subst, arith}
use Rattle.std.specs.Prelude.{IsTrue, nat_lt}
use Rattle.std.specs.List.{list_all}
use Rattle.chan_types.specs.Plans.{Plan, stop, ask, blank}
use Rattle.chan_types.specs.declared.command.Command.TheVariants.{Ask}
use Rattle.chan_types.specs.declared.journal.Entry.{Entry}
use Rattle.chan_types.specs.declared.journal.What.TheVariants.{Accept, Cancel, Take, Destroy}
use Rattle.resolv_options.specs.Defaults.{plain_values}
use Rattle.channel_model.specs.Commands.{ObeysOrders, ArePerformed, AllBecame, IsPerformed, Outcome, Performance, commanded_by, commands_for, is_behind_take, left, lost, passed, position_of, positions_left}
use Rattle.channel_model.specs.Completion.{taken}
use Rattle.channel_model.specs.Journal.{past_of}
use Rattle.channel_model.specs.Setting.{Setting}
use Rattle.channel_examples.specs.Words.{channel_with, one_server, ask_x}
use Rattle.channel_examples.proofs.Words.{own, by, no_orders, always, script_of_steps}
use Rattle.dns_message.specs.NameText as NameText

abbrev pub setting : Setting
setting = channel_with (record plain_values { servers = one_server })

-- it asks for x.test
abbrev pub script : Plan
script = script_of_steps (always (ask ask_x 0) stop stop)

-- the request of the callback is accepted before its ticket was taken
abbrev pub early : List Entry
early = own (Accept 1 ask_x script) ∷ own Cancel ∷ by 1 (Accept 2 ask_x (blank 0)) ∷ own (Take 1) ∷ own Destroy ∷ []

-- the two halves of a conjunction
both : (b c : Bool) → (b && c) ≡ true → (b ≡ true) × (c ≡ true)
both true true h = (refl, refl)
both true false h = absurd (cc h)
both false c h = absurd (cc h)

-- the one command left its entry at 2, which isn't behind the Take at 3
not_behind : (outcomes : List Outcome) → AllBecame setting early 0 (Ask ask_x (blank 0) ∷ []) outcomes → commanded_by 1 early ≡ positions_left outcomes →
    IsTrue (list_all (λ outcome. is_behind_take early 0 1 (position_of outcome)) outcomes) → ⊥
not_behind [] became entries behind = became
not_behind (left k ∷ outcomes) became entries behind =
    let is : ◌≡◌ {A = ℕ} 2 k = cc entries in
    let later : nat_lt 3 k ≡ true = (both (nat_lt 3 k) true (both (nat_lt 3 k && true) (list_all (λ outcome. is_behind_take early 0 1 (position_of outcome)) outcomes) behind).0).0 in
    let no : nat_lt 3 2 ≡ true = subst (λ n. nat_lt 3 n ≡ true) (sym is) later in
    cc no
not_behind (passed k ∷ []) became entries behind = cc entries
not_behind (passed k ∷ outcome ∷ outcomes) became entries behind = became.2
not_behind (lost k ∷ []) became entries behind = cc entries
not_behind (lost k ∷ outcome ∷ outcomes) became entries behind = became.2

-- whenever it is said to have been performed, by the only seat of the channel
pub not_obeyed_early : (last count : ℕ) → ObeysOrders setting early 1 no_orders last count → ⊥
unfolding NameText.units_of
not_obeyed_early last count obeys = by_performances obeys.performances obeys.requests_are obeys.performed
  where
    at_one : (p : Performance) → p.request ≡ 1 → p.seat ≡ 0 → IsPerformed setting early 1 no_orders last p → ⊥
    at_one p is_one is_first performed =
        not_behind p.outcomes
        (subst (λ n. AllBecame setting early 0 (commands_for setting early no_orders n) p.outcomes) is_one performed.became)
        (subst (λ n. commanded_by n early ≡ positions_left p.outcomes) is_one performed.entries_are)
        (subst (λ n. IsTrue (list_all (λ outcome. is_behind_take early n 1 (position_of outcome)) p.outcomes)) is_first
        (subst (λ n. IsTrue (list_all (λ outcome. is_behind_take early p.seat n (position_of outcome)) p.outcomes)) is_one performed.behind_take))

    by_performances : (ps : List Performance) → map (λ p. p.request) ps ≡ taken (past_of early) → ArePerformed setting early 1 no_orders last ps → ⊥
    by_performances [] requests performed = absurd (cc requests)
    by_performances (p ∷ ps) requests performed =
        let seat : ◌≡◌ {A = ℕ} p.seat 0 = omega (arith, performed.0.seated) in
        let one : ◌≡◌ {A = ℕ} p.request 1 = cc requests in
        at_one p one seat performed.0

-- the callback of a request that wasn't taken commands nothing
abbrev pub not_taken : List Entry
not_taken = own (Accept 1 ask_x (blank 0)) ∷ by 1 Cancel ∷ own Destroy ∷ []

pub not_obeyed_untaken : (seats last count : ℕ) → ObeysOrders setting not_taken seats no_orders last count → ⊥
not_obeyed_untaken seats last count obeys = cc obeys.givers
