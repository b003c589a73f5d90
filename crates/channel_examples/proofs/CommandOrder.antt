-- The commands of a callback are performed in their order, and no others: a later one finds what an earlier one left, and their entries stand so.
use Rattle.std.proofs.Common.{◌≡◌, ℕ, zero, suc, ◌+◌, ◌≤◌, List, [], ◌∷◌, Bool, true, false, ◌&&◌, refl, sym, ap, subst, arith}
use Rattle.std.specs.Prelude.{IsTrue, codes, nat_le}
use Rattle.std.specs.List.{list_all}
use Rattle.std.specs.Option.{option_map_or}
use Rattle.std.proofs.lemmas.Bool.{leb-true}
use Rattle.chan_types.specs.Plans.{Plan, ask, blank, cancel, stop}
use Rattle.chan_types.specs.declared.command.Command.{Command}
use Rattle.chan_types.specs.declared.command.Command.TheVariants.{Ask}
use Rattle.chan_types.specs.declared.journal.Entry.{Entry}
use Rattle.chan_types.specs.declared.journal.What.{What}
use Rattle.chan_types.specs.declared.journal.What.TheVariants.{Accept, Cancel, Take, Destroy}
use Rattle.chan_types.specs.declared.spec.Spec.{Spec}
use Rattle.chan_types.specs.declared.spec.Spec.TheVariants.{Query, Search, Address, Reverse}
use Rattle.dns_message.specs.Numbers.{class_in, kind_a, kind_aaaa}
use Rattle.resolv_options.specs.Defaults.{plain_values}
use Rattle.channel_model.specs.Commands.{AllBecame, Became, IsAt, IsPerformed, ObeysOrders, Outcome, closing_position, commanded_by, is_before_other_work, leaves, left, lost, passed, past_at, position_of, positions_left}
use Rattle.channel_model.specs.Journal.{accepted_by}
use Rattle.channel_model.specs.Setting.{Setting}
use Rattle.channel_examples.specs.Words.{channel_with, one_server, ask_x}
use Rattle.channel_examples.proofs.OneTaken.{WasPerformed, of_the_taken}
use Rattle.channel_examples.proofs.Words.{own, by, no_orders, always, script_of_steps}
use Rattle.dns_message.specs.NameText as NameText

abbrev pub setting : Setting
setting = channel_with (record plain_values { servers = one_server })

-- a request that completes at once, since its text is no name
abbrev pub ask_no_name : Spec
ask_no_name = Query (codes "a..b") kind_a class_in

-- ---- a request is asked, and then all is cancelled

abbrev pub ask_and_cancel : Plan
ask_and_cancel = script_of_steps (always (ask ask_x 0) stop (always cancel stop stop))

-- the request of the callback is cancelled, or isn't
abbrev pub cancelled : List Entry
cancelled = own (Accept 1 ask_no_name ask_and_cancel) ∷ own (Take 1) ∷ by 1 (Accept 2 ask_x (blank 0)) ∷ by 1 Cancel ∷ own Destroy ∷ []

abbrev pub not_cancelled : List Entry
not_cancelled = own (Accept 1 ask_no_name ask_and_cancel) ∷ own (Take 1) ∷ by 1 (Accept 2 ask_x (blank 0)) ∷ own Destroy ∷ []

pub obeyed : ObeysOrders setting cancelled 1 no_orders (closing_position cancelled) 0
unfolding NameText.units_of
obeyed = record {
  performances = record { request = 1; seat = 0; outcomes = left 2 ∷ left 3 ∷ [] } ∷ [];
  requests_are = refl;
  performed = (
    record {
      seated = omega arith;
      became = (
        omega arith,
        (record { entry = by 1 (Accept 2 ask_x (blank 0)); stands = refl; is_its = (2, refl) }, refl),
        (omega arith, (record { entry = by 1 Cancel; stands = refl; is_its = refl }, refl), tt),
      );
      entries_are = refl;
      of_seat = refl;
      in_time = refl;
      behind_take = refl;
      before_other_work = refl;
    },
    tt,
  );
  givers = refl;
  lost_are = refl;
}

-- before the request was asked there was nothing to cancel
pub nothing_before : Became setting not_cancelled Command.Cancel (passed 2)
unfolding NameText.units_of
nothing_before = (omega arith, refl)

-- but behind it there is, up to the seat's next work
something_behind : (k : ℕ) → 3 ≤ k → k ≤ 3 → leaves setting Command.Cancel (past_at not_cancelled k) ≡ false → ⊥
unfolding NameText.units_of
something_behind zero from to none = omega (arith, from)
something_behind (suc zero) from to none = omega (arith, from)
something_behind (suc (suc zero)) from to none = omega (arith, from)
something_behind (suc (suc (suc zero))) from to none = cc none
something_behind (suc (suc (suc (suc k)))) from to none = omega (arith, to)

-- a Cancel isn't what stands at 2
no_cancel : (k : ℕ) → 2 ≡ k → IsAt not_cancelled Command.Cancel k → ⊥
no_cancel k is stands =
    let there : IsAt not_cancelled Command.Cancel 2 = subst (IsAt not_cancelled Command.Cancel) (sym is) stands in
    cc (there.stands, there.is_its)

-- so the Cancel wasn't dropped where it found nothing
not_dropped : (outcomes : List Outcome) → AllBecame setting not_cancelled 0 (Ask ask_x (blank 0) ∷ Command.Cancel ∷ []) outcomes →
    commanded_by 1 not_cancelled ≡ positions_left outcomes → IsTrue (list_all (λ outcome. is_before_other_work not_cancelled 0 1 (position_of outcome)) outcomes) → ⊥
not_dropped [] became entries before = became
not_dropped (o ∷ []) became entries before = became.2
not_dropped (o ∷ p ∷ q ∷ os) became entries before = became.2.2
not_dropped (left i ∷ left j ∷ []) became entries before = cc entries
not_dropped (left i ∷ lost j ∷ []) became entries before = cc became.2.1.1
not_dropped (left i ∷ passed j ∷ []) became entries before =
    let is : ◌≡◌ {A = ℕ} 2 i = cc entries in
    let from : i + 1 ≤ j = became.2.0 in
    let none : leaves setting Command.Cancel (past_at not_cancelled j) ≡ false = became.2.1.1 in
    let to : j ≤ 3 = leb-true j 3 (halved (nat_le i 3) (nat_le j 3) before) in
    something_behind j (omega (arith, is, from)) to none
  where
    halved : (b c : Bool) → ((b && true) && ((c && true) && true)) ≡ true → c ≡ true
    halved true true h = refl
    halved true false h = absurd (cc h)
    halved false c h = absurd (cc h)
not_dropped (passed i ∷ left j ∷ []) became entries before = no_cancel j (cc entries) became.2.1.0
not_dropped (passed i ∷ passed j ∷ []) became entries before = cc entries
not_dropped (passed i ∷ lost j ∷ []) became entries before = cc entries
not_dropped (lost i ∷ left j ∷ []) became entries before = no_cancel j (cc entries) became.2.1.0
not_dropped (lost i ∷ passed j ∷ []) became entries before = cc entries
not_dropped (lost i ∷ lost j ∷ []) became entries before = cc entries

-- whenever it is said to have been performed, by the only seat of the channel
pub not_obeyed : (last count : ℕ) → ObeysOrders setting not_cancelled 1 no_orders last count → ⊥
unfolding NameText.units_of
not_obeyed last count obeys =
    let one : WasPerformed setting not_cancelled 1 no_orders last 1 count = of_the_taken setting not_cancelled 1 no_orders last 1 count refl obeys in
    by_seat one.seat one.outcomes one.performed
  where
    by_seat : (seat : ℕ) (outcomes : List Outcome) →
        IsPerformed setting not_cancelled 1 no_orders last (record { request = 1; seat = seat; outcomes = outcomes }) → ⊥
    by_seat zero outcomes performed = not_dropped outcomes performed.became performed.entries_are performed.before_other_work
    by_seat (suc seat) outcomes performed = omega (arith, performed.seated)

-- ---- two requests are asked, for the IPv4 and for the IPv6 addresses of x.test

abbrev pub ask_six : Spec
ask_six = Query (codes "x.test.") kind_aaaa class_in

abbrev pub ask_both : Plan
ask_both = script_of_steps (always (ask ask_x 0) stop (always (ask ask_six 0) stop stop))

-- they are accepted in this order
abbrev pub both_asked : Spec → Spec → List Entry
both_asked first second =
    own (Accept 1 ask_no_name ask_both) ∷ own (Take 1) ∷ by 1 (Accept 2 first (blank 0)) ∷ by 1 (Accept 3 second (blank 0)) ∷ own Destroy ∷ []

pub in_order : ObeysOrders setting (both_asked ask_x ask_six) 1 no_orders 4 0
unfolding NameText.units_of
in_order = record {
  performances = record { request = 1; seat = 0; outcomes = left 2 ∷ left 3 ∷ [] } ∷ [];
  requests_are = refl;
  performed = (
    record {
      seated = omega arith;
      became = (
        omega arith,
        (record { entry = by 1 (Accept 2 ask_x (blank 0)); stands = refl; is_its = (2, refl) }, refl),
        (omega arith, (record { entry = by 1 (Accept 3 ask_six (blank 0)); stands = refl; is_its = (3, refl) }, refl), tt),
      );
      entries_are = refl;
      of_seat = refl;
      in_time = refl;
      behind_take = refl;
      before_other_work = refl;
    },
    tt,
  );
  givers = refl;
  lost_are = refl;
}

-- the kind that an entry's request asks for, or 0
abbrev kind_asked : Spec → ℕ
kind_asked (Query text kind class) = kind
kind_asked (Search text kind class) = kind
kind_asked (Address host family nosort) = 0
kind_asked (Reverse address) = 0

abbrev kind_in : What → ℕ
kind_in what = option_map_or (λ request. kind_asked request.spec) (accepted_by what) 0

-- the first command's request isn't what stands at 2 the other way round
not_first : (k : ℕ) → 2 ≡ k → IsAt (both_asked ask_six ask_x) (Ask ask_x (blank 0)) k → ⊥
not_first k is stands =
    let there : IsAt (both_asked ask_six ask_x) (Ask ask_x (blank 0)) 2 =
    subst (IsAt (both_asked ask_six ask_x) (Ask ask_x (blank 0))) (sym is) stands in
    let here : ◌≡◌ {A = ℕ} 28 (kind_in there.entry.what) = ap (λ found. option_map_or (λ entry. kind_in entry.what) found 0) there.stands in
    let its : ◌≡◌ {A = ℕ} (kind_in there.entry.what) 1 = ap kind_in there.is_its.1 in
    omega (arith, here, its)

not_swapped : (outcomes : List Outcome) → AllBecame setting (both_asked ask_six ask_x) 0 (Ask ask_x (blank 0) ∷ Ask ask_six (blank 0) ∷ []) outcomes →
    commanded_by 1 (both_asked ask_six ask_x) ≡ positions_left outcomes → ⊥
not_swapped [] became entries = became
not_swapped (o ∷ []) became entries = became.2
not_swapped (o ∷ p ∷ q ∷ os) became entries = became.2.2
not_swapped (left i ∷ left j ∷ []) became entries = not_first i (cc entries) became.1.0
not_swapped (left i ∷ passed j ∷ []) became entries = cc entries
not_swapped (left i ∷ lost j ∷ []) became entries = cc entries
not_swapped (passed i ∷ left j ∷ []) became entries = cc entries
not_swapped (passed i ∷ passed j ∷ []) became entries = cc entries
not_swapped (passed i ∷ lost j ∷ []) became entries = cc entries
not_swapped (lost i ∷ left j ∷ []) became entries = cc entries
not_swapped (lost i ∷ passed j ∷ []) became entries = cc entries
not_swapped (lost i ∷ lost j ∷ []) became entries = cc entries

-- then they aren't obeyed, whatever is said of when, and by which of the channel's seats
pub out_of_order : (seats last count : ℕ) → ObeysOrders setting (both_asked ask_six ask_x) seats no_orders last count → ⊥
unfolding NameText.units_of
out_of_order seats last count obeys =
    let one : WasPerformed setting (both_asked ask_six ask_x) seats no_orders last 1 count =
    of_the_taken setting (both_asked ask_six ask_x) seats no_orders last 1 count refl obeys in
    not_swapped one.outcomes one.performed.became one.performed.entries_are

-- ---- what no command gave

abbrev pub not_given : List Entry
not_given = own (Accept 1 ask_no_name (blank 0)) ∷ own (Take 1) ∷ by 1 (Accept 2 ask_x (blank 0)) ∷ own Destroy ∷ []

none_left : (outcomes : List Outcome) → AllBecame setting not_given 0 [] outcomes → commanded_by 1 not_given ≡ positions_left outcomes → ⊥
none_left [] became entries = cc entries
none_left (o ∷ os) became entries = became

pub given_by_none : (seats last count : ℕ) → ObeysOrders setting not_given seats no_orders last count → ⊥
unfolding NameText.units_of
given_by_none seats last count obeys =
    let one : WasPerformed setting not_given seats no_orders last 1 count = of_the_taken setting not_given seats no_orders last 1 count refl obeys in
    none_left one.outcomes one.performed.became one.performed.entries_are

-- nor is a request accepted with another script than the command hands on
abbrev pub other_script : List Entry
other_script = own (Accept 1 ask_no_name (script_of_steps (always (ask ask_x 0) stop stop))) ∷ own (Take 1) ∷ by 1 (Accept 2 ask_x (blank 7)) ∷ own Destroy ∷ []

-- the tag of an entry's script, or 0
abbrev tag_in : What → ℕ
tag_in what = option_map_or (λ request. request.script.tag) (accepted_by what) 0

not_its : (k : ℕ) → 2 ≡ k → IsAt other_script (Ask ask_x (blank 0)) k → ⊥
not_its k is stands =
    let there : IsAt other_script (Ask ask_x (blank 0)) 2 = subst (IsAt other_script (Ask ask_x (blank 0))) (sym is) stands in
    let here : ◌≡◌ {A = ℕ} 7 (tag_in there.entry.what) = ap (λ found. option_map_or (λ entry. tag_in entry.what) found 0) there.stands in
    let its : ◌≡◌ {A = ℕ} (tag_in there.entry.what) 0 = ap tag_in there.is_its.1 in
    omega (arith, here, its)

not_with_it : (outcomes : List Outcome) → AllBecame setting other_script 0 (Ask ask_x (blank 0) ∷ []) outcomes → commanded_by 1 other_script ≡ positions_left outcomes → ⊥
not_with_it [] became entries = became
not_with_it (o ∷ p ∷ os) became entries = became.2
not_with_it (left i ∷ []) became entries = not_its i (cc entries) became.1.0
not_with_it (passed i ∷ []) became entries = cc entries
not_with_it (lost i ∷ []) became entries = cc entries

pub with_another_script : (seats last count : ℕ) → ObeysOrders setting other_script seats no_orders last count → ⊥
unfolding NameText.units_of
with_another_script seats last count obeys =
    let one : WasPerformed setting other_script seats no_orders last 1 count = of_the_taken setting other_script seats no_orders last 1 count refl obeys in
    not_with_it one.outcomes one.performed.became one.performed.entries_are
