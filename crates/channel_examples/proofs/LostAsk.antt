-- A request that a destroyed channel refuses isn't lost: lost is what would have been accepted.
use Rattle.std.proofs.Common.{◌≡◌, ℕ, zero, suc, ◌<◌, ◌≤◌, List, [], ◌∷◌, Bool, true, false, ◌&&◌, refl, arith}
use Rattle.std.specs.Prelude.{IsTrue, count_by, nat_lt}
use Rattle.std.specs.List.{list_all}
use Rattle.std.proofs.lemmas.Bool.{ltb-true}
use Rattle.chan_types.specs.Plans.{Plan, ask, blank, stop}
use Rattle.chan_types.specs.declared.command.Command.TheVariants.{Ask}
use Rattle.chan_types.specs.declared.journal.Entry.{Entry}
use Rattle.chan_types.specs.declared.journal.What.TheVariants.{Accept, Take, Destroy}
use Rattle.channel_model.specs.Commands.{AllBecame, IsPerformed, ObeysOrders, Outcome, commanded_by, is_behind_take, is_lost, leaves, left, lost, passed, past_at, position_of, positions_left}
use Rattle.channel_examples.specs.Words.{ask_x}
use Rattle.channel_examples.proofs.CommandOrder.{ask_no_name, setting}
use Rattle.channel_examples.proofs.OneTaken.{WasPerformed, of_the_taken}
use Rattle.channel_examples.proofs.Words.{own, no_orders, always, script_of_steps}
use Rattle.dns_message.specs.NameText as NameText

-- it asks for x.test
abbrev pub script : Plan
script = script_of_steps (always (ask ask_x 0) stop stop)

-- the channel is destroyed before the ticket is taken
abbrev pub journal : List Entry
journal = own (Accept 1 ask_no_name script) ∷ own Destroy ∷ own (Take 1) ∷ []

pub obeyed : ObeysOrders setting journal 1 no_orders 3 0
unfolding NameText.units_of
obeyed = record {
  performances = record { request = 1; seat = 0; outcomes = passed 3 ∷ [] } ∷ [];
  requests_are = refl;
  performed = (
    record {
      seated = omega arith;
      became = (omega arith, (omega arith, refl), tt);
      entries_are = refl;
      of_seat = refl;
      in_time = refl;
      behind_take = refl;
      before_other_work = refl;
    },
    tt,
  );
  givers = refl;
  lost_are = refl;
}

-- behind the Take nothing is accepted
none_accepted : (k : ℕ) → 2 < k → k ≤ 3 → leaves setting (Ask ask_x (blank 0)) (past_at journal k) ≡ true → ⊥
none_accepted zero from to accepts = omega (arith, from)
none_accepted (suc zero) from to accepts = omega (arith, from)
none_accepted (suc (suc zero)) from to accepts = omega (arith, from)
none_accepted (suc (suc (suc zero))) from to accepts = cc accepts
none_accepted (suc (suc (suc (suc k)))) from to accepts = omega (arith, to)

-- so the one command didn't lose a request
none_lost : (outcomes : List Outcome) → AllBecame setting journal 0 (Ask ask_x (blank 0) ∷ []) outcomes → commanded_by 1 journal ≡ positions_left outcomes →
    IsTrue (list_all (λ outcome. is_behind_take journal 0 1 (position_of outcome)) outcomes) → 1 ≡ count_by is_lost outcomes → ⊥
none_lost [] became entries behind count = became
none_lost (o ∷ p ∷ os) became entries behind count = became.2
none_lost (left k ∷ []) became entries behind count = cc entries
none_lost (passed k ∷ []) became entries behind count = let none : ◌≡◌ {A = ℕ} 1 0 = count in omega (arith, none)
none_lost (lost k ∷ []) became entries behind count = none_accepted k (ltb-true 2 k (first (nat_lt 2 k) behind)) became.1.0 became.1.2
  where
    first : (b : Bool) → ((b && true) && true) ≡ true → b ≡ true
    first true h = refl
    first false h = absurd (cc h)

pub not_lost : (last : ℕ) → ObeysOrders setting journal 1 no_orders last 1 → ⊥
unfolding NameText.units_of
not_lost last obeys =
    let one : WasPerformed setting journal 1 no_orders last 1 1 = of_the_taken setting journal 1 no_orders last 1 1 refl obeys in
    by_seat one.seat one.outcomes one.performed one.lost_are
  where
    by_seat : (seat : ℕ) (outcomes : List Outcome) →
        IsPerformed setting journal 1 no_orders last (record { request = 1; seat = seat; outcomes = outcomes }) → 1 ≡ count_by is_lost outcomes → ⊥
    by_seat zero outcomes performed count = none_lost outcomes performed.became performed.entries_are performed.behind_take count
    by_seat (suc seat) outcomes performed count = omega (arith, performed.seated)
