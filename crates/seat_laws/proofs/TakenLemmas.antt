-- How often a seat took a request: a request that it delivered it took for nobody else.
use Rattle.std.proofs.Common.{◌≡◌, ◌≢◌, ◌∙◌, ℕ, zero, suc, ◌+◌, ◌≤◌, ◌==◌, Bool, true, false, not, cond, List, [], ◌∷◌, ◌++◌, Option, Some, None, is_some, refl, sym, ap, ap₂, subst, arith, append_assoc}
use Rattle.std.proofs.lemmas.Bool.{and_parts}
use Rattle.std.proofs.lemmas.List.{append-nil}
use Rattle.std.specs.List.{AllByRecursion, list_all}
use Rattle.std.specs.Prelude.{option_to_list}
use Rattle.chan_types.specs.declared.journal.Entry.{Entry}
use Rattle.chan_types.specs.declared.orders.Orders.{Orders}
use Rattle.channel_model.proofs.Theorems.{occurrences-append, own-append}
use Rattle.channel_model.specs.Completion.{occurrences, taken, taken_by}
use Rattle.channel_model.specs.Journal.{Past, followed_by, own_entries, past_of}
use Rattle.channel_model.specs.Known.{Known}
use Rattle.seat_laws.proofs.ListLemmas.{first_passes, occurrences_cons}
use Rattle.seat_laws.specs.Shifts.{DoesWorks, Makes, Obeys, Telling, Work, called_for, calling, delivering, freely, handed_over, is_free, requests_told, taking, taking_entry}
use Rattle.ticket_delivery.proofs.Theorems.{command_takes}
use Rattle.ticket_delivery.specs.Performing.{IsBy}

-- the requests that entries take, in order
abbrev takes_in : List Entry → List ℕ
takes_in [] = []
takes_in (e ∷ es) = option_to_list (taken_by e.what) ++ takes_in es

takes-append : (xs ys : List Entry) → takes_in (xs ++ ys) ≡ takes_in xs ++ takes_in ys
takes-append [] ys = refl
takes-append (x ∷ xs) ys = ap (λ l. option_to_list (taken_by x.what) ++ l) (takes-append xs ys) ∙ sym (append_assoc (option_to_list (taken_by x.what)) (takes_in xs) (takes_in ys))

taken_followed : (past : Past) (es : List Entry) → taken (followed_by past es) ≡ taken past ++ takes_in es
taken_followed past [] = sym (append-nil (taken past))
taken_followed past (e ∷ es) = taken_followed (e.what ∷ past) es ∙ append_assoc (taken past) (option_to_list (taken_by e.what)) (takes_in es)

-- one seat takes a request no more often than all
own_fewer : (n seat : ℕ) (es : List Entry) → occurrences n (takes_in (own_entries seat es)) ≤ occurrences n (takes_in es)
own_fewer n seat [] = omega arith
own_fewer n seat (e ∷ es) = by (e.seat == seat) (own_fewer n seat es)
  where
    by : (b : Bool) → occurrences n (takes_in (own_entries seat es)) ≤ occurrences n (takes_in es) → occurrences n (takes_in (cond b (e ∷ own_entries seat es) (own_entries seat es))) ≤ occurrences n (takes_in (e ∷ es))
    by true rest = omega (arith, rest, occurrences-append n (option_to_list (taken_by e.what)) (takes_in (own_entries seat es)), occurrences-append n (option_to_list (taken_by e.what)) (takes_in es))
    by false rest = omega (arith, rest, occurrences-append n (option_to_list (taken_by e.what)) (takes_in es))

nothing_taken : (found : Option ℕ) → not (is_some found) ≡ true → option_to_list found ≡ []
nothing_taken None fails = refl
nothing_taken (Some n) fails = absurd (cc fails)

free_takes : (es : List Entry) → list_all is_free es ≡ true → takes_in es ≡ []
free_takes [] free = refl
free_takes (e ∷ es) free =
    let now = first_passes is_free e es free in
    ap₂ (λ xs ys. xs ++ ys) (nothing_taken (taken_by e.what) (and_parts (not (is_some (taken_by e.what))) (e.by == 0) now.0).0) (free_takes es now.1)

commanded_take : (by : ℕ) (es : List Entry) → AllByRecursion (IsBy by) es → takes_in es ≡ []
commanded_take by [] each = refl
commanded_take by (e ∷ es) each = ap₂ (λ xs ys. option_to_list xs ++ ys) (command_takes e.what each.0.1) (commanded_take by es each.1)

-- the requests that a seat took and delivered
abbrev pub delivered : List Work → List ℕ
delivered [] = []
delivered (freely ∷ works) = delivered works
delivered (taking request ∷ works) = delivered works
delivered (calling telling ∷ works) = delivered works
delivered (delivering telling ∷ works) = telling.answer.number ∷ delivered works

-- it told those, and those that it called for others
told_split : (n : ℕ) (works : List Work) → occurrences n (requests_told works) ≡ occurrences n (called_for works) + occurrences n (delivered works)
told_split n [] = refl
told_split n (freely ∷ works) = told_split n works
told_split n (taking m ∷ works) = told_split n works
told_split n (calling t ∷ works) = omega (arith, told_split n works, occurrences_cons n t.answer.number (requests_told works), occurrences_cons n t.answer.number (called_for works))
told_split n (delivering t ∷ works) = omega (arith, told_split n works, occurrences_cons n t.answer.number (requests_told works), occurrences_cons n t.answer.number (delivered works))

-- what a seat made takes a request as often
record TakesAsOften (n often : ℕ) (old new : Known) : Type 0 where
  since : List Entry
  seen : new.seen ≡ old.seen ++ since
  seat : new.seat ≡ old.seat
  times : occurrences n (takes_in (own_entries old.seat since)) ≡ often

often_more : (n a b : ℕ) (old middle new : Known) → TakesAsOften n a old middle → TakesAsOften n b middle new → TakesAsOften n (a + b) old new
often_more n a b old middle new first more =
    let own : takes_in (own_entries old.seat (first.since ++ more.since)) ≡ takes_in (own_entries old.seat first.since) ++ takes_in (own_entries old.seat more.since) =
    ap takes_in (own-append old.seat first.since more.since) ∙ takes-append (own_entries old.seat first.since) (own_entries old.seat more.since) in
    let behind : occurrences n (takes_in (own_entries old.seat more.since)) ≡ b = subst (λ s. occurrences n (takes_in (own_entries s more.since)) ≡ b) first.seat more.times in
    record {
      since = first.since ++ more.since;
      seen = more.seen ∙ ap (λ l. l ++ more.since) first.seen ∙ append_assoc old.seen first.since more.since;
      seat = more.seat ∙ first.seat;
      times = ap (occurrences n) own ∙ occurrences-append n (takes_in (own_entries old.seat first.since)) (takes_in (own_entries old.seat more.since)) ∙ omega (arith, first.times, behind);
    }

often_makes : (n : ℕ) (made : List Entry) (old new : Known) → Makes made old new → TakesAsOften n (occurrences n (takes_in made)) old new
often_makes n made old new m = record { since = m.since; seen = m.seen; seat = m.seat; times = ap (λ es. occurrences n (takes_in es)) m.own }

often_same : (n a b : ℕ) (old new : Known) → a ≡ b → TakesAsOften n a old new → TakesAsOften n b old new
often_same n a b old new same often = subst (λ k. TakesAsOften n k old new) same often

module _ (orders : Orders) (n : ℕ) where
  often_obeys : (telling : Telling) (old new : Known) → Obeys orders telling old new → TakesAsOften n 0 old new
  often_obeys telling old new o = record {
    since = o.since;
    seen = o.seen;
    seat = o.seat;
    times = ap (occurrences n) (commanded_take telling.answer.number (own_entries old.seat o.since) o.commanded);
  }

  works_often : (works : List Work) (old new : Known) → DoesWorks orders works old new → TakesAsOften n (occurrences n (handed_over works) + occurrences n (delivered works)) old new
  works_often [] old new does = record { since = []; seen = ap (λ (k : Known). k.seen) does ∙ sym (append-nil old.seen); seat = ap (λ (k : Known). k.seat) does; times = refl }
  works_often (freely ∷ works) old new does =
      often_same n (occurrences n (takes_in does.1.0) + (occurrences n (handed_over works) + occurrences n (delivered works))) (occurrences n (handed_over works) + occurrences n (delivered works)) old new
      (ap (λ l. occurrences n l + (occurrences n (handed_over works) + occurrences n (delivered works))) (free_takes does.1.0 does.1.2) ∙ omega arith)
      (often_more n (occurrences n (takes_in does.1.0)) (occurrences n (handed_over works) + occurrences n (delivered works)) old does.0 new (often_makes n does.1.0 old does.0 does.1.1) (works_often works does.0 new does.2))
  works_often (taking m ∷ works) old new does =
      often_same n (occurrences n (m ∷ []) + (occurrences n (handed_over works) + occurrences n (delivered works))) (occurrences n (m ∷ handed_over works) + occurrences n (delivered works)) old new
      (omega (arith, occurrences_cons n m [], occurrences_cons n m (handed_over works)))
      (often_more n (occurrences n (m ∷ [])) (occurrences n (handed_over works) + occurrences n (delivered works)) old does.0 new (often_makes n (taking_entry old.seat m ∷ []) old does.0 does.1) (works_often works does.0 new does.2))
  works_often (calling t ∷ works) old new does =
      often_same n (0 + (occurrences n (handed_over works) + occurrences n (delivered works))) (occurrences n (handed_over works) + occurrences n (delivered works)) old new (omega arith)
      (often_more n 0 (occurrences n (handed_over works) + occurrences n (delivered works)) old does.0 new (often_obeys t old does.0 does.1) (works_often works does.0 new does.2))
  works_often (delivering t ∷ works) old new does =
      often_same n ((occurrences n (t.answer.number ∷ []) + 0) + (occurrences n (handed_over works) + occurrences n (delivered works))) (occurrences n (handed_over works) + occurrences n (t.answer.number ∷ delivered works)) old new
      (omega (arith, occurrences_cons n t.answer.number [], occurrences_cons n t.answer.number (delivered works)))
      (often_more n (occurrences n (t.answer.number ∷ []) + 0) (occurrences n (handed_over works) + occurrences n (delivered works)) old does.0 new
      (often_more n (occurrences n (t.answer.number ∷ [])) 0 old does.1.0 does.0 (often_makes n (taking_entry old.seat t.answer.number ∷ []) old does.1.0 does.1.1) (often_obeys t does.1.0 does.0 does.1.2))
      (works_often works does.0 new does.2))

  -- so a request that it told it handed over to nobody, where no request is taken twice
  pub told_apart : (works : List Work) (old new : Known) (behind : List Entry) → DoesWorks orders works old new → old.seen ≡ [] → occurrences n (taken (past_of (new.seen ++ behind))) ≤ 1 →
      (occurrences n (called_for works) ≢ 0 → occurrences n (handed_over works) ≡ 0) → occurrences n (requests_told works) ≢ 0 → occurrences n (handed_over works) ≡ 0
  told_apart works old new behind does unseen once apart told =
      let often = works_often works old new does in
      let all : taken (past_of (new.seen ++ behind)) ≡ takes_in often.since ++ takes_in behind =
      ap (λ l. taken (past_of (l ++ behind))) (often.seen ∙ ap (λ l. l ++ often.since) unseen) ∙ taken_followed [] (often.since ++ behind) ∙ takes-append often.since behind in
      by (occurrences n (called_for works)) refl
      (omega (arith, often.times, own_fewer n old.seat often.since, ap (occurrences n) all, occurrences-append n (takes_in often.since) (takes_in behind), once))
    where
      by : (k : ℕ) → occurrences n (called_for works) ≡ k → occurrences n (handed_over works) + occurrences n (delivered works) ≤ 1 → occurrences n (handed_over works) ≡ 0
      by zero is few = omega (arith, few, is, told_split n works, told)
      by (suc k) is few = apart (λ none. absurd (omega (arith, none, is)))
