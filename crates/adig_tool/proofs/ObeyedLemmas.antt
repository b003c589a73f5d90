-- Commands are obeyed where no script has a step: nobody commanded anything.
use Rattle.std.proofs.Common.{◌≡◌, ℕ, ◌+◌, ◌==◌, ◌||◌, not, List, [], ◌∷◌, refl, sym, ap, map, Bool, true, false, if◌then◌else◌, inl, inr, arith, eqb-true}
use Rattle.std.specs.Prelude.{Option, Some, None, find, option_map, sum_by, count_by, ◌⊎◌}
use Rattle.std.specs.Option.{option_map_or}
use Rattle.std.specs.List.{list_all}
use Rattle.std.proofs.lemmas.List.Sums.{sum_by-cons}
use mathlib.Core.List.{IsPrefix}
use Rattle.chan_types.specs.Gives.{gives}
use Rattle.chan_types.specs.Plans.{blank}
use Rattle.chan_types.specs.declared.answer.Answer.{Answer}
use Rattle.chan_types.specs.declared.journal.Entry.{Entry}
use Rattle.chan_types.specs.declared.orders.Orders.{Orders}
use Rattle.chan_types.specs.declared.spec.Spec.{Spec}
use Rattle.channel_model.specs.Commands.{ArePerformed, IsPerformed, ObeysOrders, Performance, commands_for, is_lost, is_one_of, positions_from}
use Rattle.channel_model.specs.Completion.{fate, taken}
use Rattle.channel_model.specs.Journal.{Accepted, accepted, past_of}
use Rattle.channel_model.specs.Setting.{Setting}
use Rattle.adig_tool.specs.Entries.{first_request, is_own, is_steady}
use Rattle.adig_tool.proofs.ListLemmas.{all_pass, first_passes, one_at_most, three_hold}

-- nobody commanded a command of this request
abbrev nobody_commanded : ℕ → Performance
nobody_commanded n = record { request = n; seat = 0; outcomes = [] }

-- an own entry is of seat 0, and nobody commanded it
own_is : (e : Entry) → is_own e ≡ true → ((e.seat == 0) ≡ true) × ((e.by == 0) ≡ true)
own_is e h = let is = three_hold (e.seat == 0) (e.by == 0) (is_steady e.what) h in (is.0, is.1)

-- no entry with this number, where all have number 0
none_by : (n : ℕ) → n ≡ 1 → (k : ℕ) (es : List Entry) → list_all is_own es ≡ true → positions_from (λ entry. entry.by == n) k es ≡ []
none_by n one k [] own = refl
none_by n one k (e ∷ es) own =
    let now = first_passes is_own e es own in
    rw (other (e.by == 0) (e.by == n) refl refl (own_is e now.0).1, none_by n one (k + 1) es now.1) refl
  where
    other : (zero_ it : Bool) → (e.by == 0) ≡ zero_ → (e.by == n) ≡ it → (e.by == 0) ≡ true → (e.by == n) ≡ false
    other zero_ true a b own = absurd (omega (arith, eqb-true e.by n b, eqb-true e.by 0 own, one))
    other zero_ false a b own = b

-- a script without a step gives no command
module _ (setting : Setting) (spec : Spec) (journal : List Entry) (at_most : IsPrefix (accepted (past_of journal)) (first_request spec ∷ [])) where
  no_command : (orders : Orders) (n : ℕ) → commands_for setting journal orders n ≡ []
  no_command orders n = by (accepted (past_of journal)) (one_at_most (first_request spec) (accepted (past_of journal)) at_most)
    where
      none : (found : Option Answer) → option_map_or (λ answer. gives (blank 0) answer orders) found [] ≡ []
      none None = refl
      none (Some answer) = refl

      found : (b : Bool) →
          option_map_or (λ script. option_map_or (λ answer. gives script answer orders) (fate setting n (past_of journal)) []) (option_map (λ r. r.script) (if b then Some (first_request spec) else None)) [] ≡ []
      found true = none (fate setting n (past_of journal))
      found false = refl

      by : (xs : List Accepted) → (xs ≡ []) ⊎ (xs ≡ first_request spec ∷ []) →
          option_map_or (λ script. option_map_or (λ answer. gives script answer orders) (fate setting n (past_of journal)) []) (option_map (λ r. r.script) (find (λ r. r.number == n) xs)) [] ≡ []
      by xs (inl is) = rw is refl
      by xs (inr is) = rw is (found (1 == n))

  module _ (orders : Orders) (last : ℕ) (own : list_all is_own journal ≡ true) where
    performed_one : (n : ℕ) → n ≡ 1 → IsPerformed setting journal 1 orders last (nobody_commanded n)
    performed_one n one = record {
      seated = omega arith;
      became = rw (no_command orders n) tt;
      entries_are = none_by n one 0 journal own;
      of_seat = all_pass is_own (λ entry. not (entry.by == n) || (entry.seat == 0)) (λ e h. seated (not (e.by == n)) (e.seat == 0) (own_is e h).0) journal own;
      in_time = refl;
      behind_take = refl;
      before_other_work = refl;
    }
      where
        seated : (a b : Bool) → b ≡ true → (a || b) ≡ true
        seated true b h = refl
        seated false b h = h

    performed_all : (ns : List ℕ) → list_all (λ n. n == 1) ns ≡ true → ArePerformed setting journal 1 orders last (map nobody_commanded ns)
    performed_all [] ones = tt
    performed_all (n ∷ ns) ones =
        let now = first_passes (λ m. m == 1) n ns ones in
        (performed_one n (eqb-true n 1 now.0), performed_all ns now.1)

requests_same : (ns : List ℕ) → map (λ p. p.request) (map nobody_commanded ns) ≡ ns
requests_same [] = refl
requests_same (n ∷ ns) = ap (λ l. n ∷ l) (requests_same ns)

none_lost : (ns : List ℕ) → sum_by (λ p. count_by is_lost p.outcomes) (map nobody_commanded ns) ≡ 0
none_lost [] = refl
none_lost (n ∷ ns) =
    let none : count_by is_lost [] ≡ 0 = refl in
    omega (arith, none, none_lost ns, sum_by-cons (λ p. count_by is_lost p.outcomes) (nobody_commanded n) (map nobody_commanded ns))

pub obeyed : (setting : Setting) (spec : Spec) (journal : List Entry) (orders : Orders) (last : ℕ) → IsPrefix (accepted (past_of journal)) (first_request spec ∷ []) →
    list_all is_own journal ≡ true → list_all (λ n. n == 1) (taken (past_of journal)) ≡ true → ObeysOrders setting journal 1 orders last 0
obeyed setting spec journal orders last at_most own ones = record {
  performances = map nobody_commanded (taken (past_of journal));
  requests_are = requests_same (taken (past_of journal));
  performed = performed_all setting spec journal at_most orders last own (taken (past_of journal)) ones;
  givers = all_pass is_own (λ entry. (entry.by == 0) || is_one_of (taken (past_of journal)) entry.by) (λ e h. or_left (e.by == 0) (is_one_of (taken (past_of journal)) e.by) (own_is e h).1) journal own;
  lost_are = sym (none_lost (taken (past_of journal)));
}
  where
    or_left : (a b : Bool) → a ≡ true → (a || b) ≡ true
    or_left true b h = refl
    or_left false b h = absurd (cc h)
