-- Which seat performs a callback's commands: one alone, and where that is the seat that took the request, behind the Take.
use Rattle.std.proofs.Common.{◌≡◌, ℕ, List, [], ◌∷◌, ◌==◌, Bool, true, false, ◌&&◌, ◌||◌, not, refl, arith}
use Rattle.std.specs.Prelude.{IsTrue}
use Rattle.std.specs.List.{list_all}
use Rattle.std.proofs.lemmas.Bool.{eqb-true}
use Rattle.chan_types.specs.Plans.{Plan, ask, blank, stop}
use Rattle.chan_types.specs.declared.journal.Entry.{Entry}
use Rattle.chan_types.specs.declared.journal.What.{What}
use Rattle.chan_types.specs.declared.journal.What.TheVariants.{Accept, Cancel, Take, Destroy}
use Rattle.channel_model.specs.Commands.{ObeysOrders, left}
use Rattle.channel_examples.specs.Words.{ask_x}
use Rattle.channel_examples.proofs.CommandOrder.{ask_no_name, setting}
use Rattle.channel_examples.proofs.OneTaken.{WasPerformed, of_the_taken}
use Rattle.channel_examples.proofs.Performances as Performances
use Rattle.channel_examples.proofs.Words.{own, no_orders, always, script_of_steps}
use Rattle.dns_message.specs.NameText as NameText

-- an entry of this seat on the command of request 1's callback
abbrev by_seat : ℕ → What → Entry
by_seat seat what = record { seat = seat; by = 1; what = what }

-- ---- one seat makes all of them

-- it asks for x.test twice
abbrev pub ask_twice : Plan
ask_twice = script_of_steps (always (ask ask_x 0) stop (always (ask ask_x 0) stop stop))

-- the first seat makes the first entry, and this one the second
abbrev pub asked_by : ℕ → List Entry
asked_by seat =
    own (Accept 1 ask_no_name ask_twice)
    ∷ own (Take 1)
    ∷ by_seat 0 (Accept 2 ask_x (blank 0))
    ∷ by_seat seat (Accept 3 ask_x (blank 0))
    ∷ own Destroy
    ∷ []

pub by_one_seat : ObeysOrders setting (asked_by 0) 2 no_orders 4 0
unfolding NameText.units_of
by_one_seat = record {
  performances = record { request = 1; seat = 0; outcomes = left 2 ∷ left 3 ∷ [] } ∷ [];
  requests_are = refl;
  performed = (
    record {
      seated = omega arith;
      became = (
        omega arith,
        (record { entry = by_seat 0 (Accept 2 ask_x (blank 0)); stands = refl; is_its = (2, refl) }, refl),
        (omega arith, (record { entry = by_seat 0 (Accept 3 ask_x (blank 0)); stands = refl; is_its = (3, refl) }, refl), tt),
      );
      entries_are = refl;
      of_seat = refl;
      in_time = refl;
      behind_take = refl;
      before_other_work = refl;
    },
    tt,
  );
  givers = refl;
  lost_are = refl;
}

-- no seat made both entries
not_both : (seat : ℕ) → IsTrue (list_all (λ entry. not (entry.by == 1) || (entry.seat == seat)) (asked_by 1)) → ⊥
not_both seat all =
    let each : (0 ≡ seat) × (1 ≡ seat) = by_tests (0 == seat) (1 == seat) (eqb-true 0 seat) (eqb-true 1 seat) all in
    omega (arith, each.0, each.1)
  where
    by_tests : (b c : Bool) → (b ≡ true → 0 ≡ seat) → (c ≡ true → 1 ≡ seat) → (b && (c && true)) ≡ true → (0 ≡ seat) × (1 ≡ seat)
    by_tests true true first second all = (first refl, second refl)
    by_tests true false first second all = absurd (cc all)
    by_tests false c first second all = absurd (cc all)

pub by_two_seats : (seats last count : ℕ) → ObeysOrders setting (asked_by 1) seats no_orders last count → ⊥
unfolding NameText.units_of
by_two_seats seats last count obeys =
    let one : WasPerformed setting (asked_by 1) seats no_orders last 1 count = of_the_taken setting (asked_by 1) seats no_orders last 1 count refl obeys in
    not_both one.seat one.performed.of_seat

-- ---- the seat that took the request

-- the request of the callback is accepted before its ticket is taken, by this seat; the first seat takes it
abbrev pub early : ℕ → List Entry
early seat = own (Accept 1 ask_x Performances.script) ∷ own Cancel ∷ by_seat seat (Accept 2 ask_x (blank 0)) ∷ own (Take 1) ∷ own Destroy ∷ []

-- the seat that takes it hasn't its callback's commands before
pub by_the_taker : (last count : ℕ) → ObeysOrders setting (early 0) 1 no_orders last count → ⊥
by_the_taker last count obeys = Performances.not_obeyed_early last count obeys

-- of another seat nothing is said but that it made them
pub by_another : ObeysOrders setting (early 1) 2 no_orders 4 0
unfolding NameText.units_of
by_another = record {
  performances = record { request = 1; seat = 1; outcomes = left 2 ∷ [] } ∷ [];
  requests_are = refl;
  performed = (
    record {
      seated = omega arith;
      became = (omega arith, (record { entry = by_seat 1 (Accept 2 ask_x (blank 0)); stands = refl; is_its = (2, refl) }, refl), tt);
      entries_are = refl;
      of_seat = refl;
      in_time = refl;
      behind_take = refl;
      before_other_work = refl;
    },
    tt,
  );
  givers = refl;
  lost_are = refl;
}
