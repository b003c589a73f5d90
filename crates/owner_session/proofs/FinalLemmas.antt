-- What a whole journal says: the entries of a session, the closing Destroy if there is one, and the deliveries behind that.
use Rattle.std.proofs.Common.{◌≡◌, ◌∙◌, ℕ, suc, zero, ◌+◌, ◌≤◌, ◌<◌, ◌==◌, ◌&&◌, Bool, true, false, not, cond, List, [], ◌∷◌, ◌++◌, length, refl, sym, ap, subst, inl, inr, arith, eqb-true, ne_eqb}
use Rattle.std.specs.List.{list_all, range_with_len}
use Rattle.std.specs.Prelude.{Option, Some, None, filter, is_none, is_some, ◌⊎◌}
use Rattle.std.proofs.lemmas.Bool.{and_parts}
use Rattle.std.proofs.lemmas.List.{append-nil}
use Rattle.chan_types.specs.declared.answer.Answer.{Answer}
use Rattle.chan_types.specs.declared.journal.Entry.{Entry}
use Rattle.channel_model.specs.Commands.{closing_from, closing_position, past_at}
use Rattle.channel_model.specs.Completion.{completions, fate, is_open, occurrences, pending, ready, requests, taken}
use Rattle.channel_model.specs.Journal.{Past, accepted, is_destroy, past_of}
use Rattle.channel_model.specs.Lawful.{IsLawfulPast, first}
use Rattle.channel_model.specs.Setting.{Setting}
use Rattle.channel_model.proofs.Theorems.{completes_once, requests_numbered, taken_then_ready, unasked_fate}
use Rattle.completion_ticket.specs.States.{CalledState}
use Rattle.owner_session.specs.Closing.{closing}
use Rattle.owner_session.specs.Delivering.{DeliversAll, DeliversSome}
use Rattle.owner_session.specs.Kinds.{is_of_session, is_ruled}
use Rattle.owner_session.specs.declared.caller.Caller.{Caller}
use Rattle.seat_laws.proofs.ListLemmas.{first_passes}
use Rattle.owner_laws.proofs.ListLemmas.{denies, take_front}
use Rattle.owner_session.proofs.MoveLemmas.{same_none}
use Rattle.owner_laws.proofs.Owner.{owner_called}

-- ---- the closing position

-- an entry of a session isn't the closing Destroy
not_closing : (e : Entry) → is_of_session e ≡ true → (is_destroy e.what && (e.by == 0)) ≡ false
not_closing e h = by (e.by == 0) (is_destroy e.what) (denies ((e.by == 0) && is_destroy e.what) (and_parts (is_ruled e) (not ((e.by == 0) && is_destroy e.what)) h).1)
  where
    by : (a b : Bool) → (a && b) ≡ false → (b && a) ≡ false
    by true true fails = fails
    by true false fails = refl
    by false true fails = refl
    by false false fails = refl

closing_behind : (k : ℕ) (es rest : List Entry) → list_all is_of_session es ≡ true → closing_from k (es ++ closing ∷ rest) ≡ k + length es
closing_behind k [] rest h = omega arith
closing_behind k (e ∷ es) rest h =
    let now = first_passes is_of_session e es h in
    rw (not_closing e now.0) (omega (arith, closing_behind (k + 1) es rest now.1))

closing_none : (k : ℕ) (es : List Entry) → list_all is_of_session es ≡ true → closing_from k es ≡ k + length es
closing_none k [] h = omega arith
closing_none k (e ∷ es) h =
    let now = first_passes is_of_session e es h in
    rw (not_closing e now.0) (omega (arith, closing_none (k + 1) es now.1))

-- behind a session stands the closing Destroy and something, or nothing
abbrev pub Behind : List Entry → Type 0
Behind more = ((rest : List Entry) × (more ≡ closing ∷ rest)) ⊎ (more ≡ [])

pub closing_is : (es more : List Entry) → Behind more → list_all is_of_session es ≡ true → closing_position (es ++ more) ≡ length es
closing_is es more (inl some) h = ap (λ m. closing_position (es ++ m)) some.1 ∙ closing_behind 0 es some.0 h ∙ omega arith
closing_is es more (inr none) h = ap (λ m. closing_position (es ++ m)) none ∙ ap closing_position (append-nil es) ∙ closing_none 0 es h ∙ omega arith

pub before_closing : (es more : List Entry) → Behind more → list_all is_of_session es ≡ true → past_at (es ++ more) (closing_position (es ++ more)) ≡ past_of es
before_closing es more behind h = ap (past_at (es ++ more)) (closing_is es more behind h) ∙ ap past_of (take_front es more)

-- ---- where nothing is ready, nothing is delivered

none_some : {B : Type 0} (called : List CalledState) (a b : Caller B) → ready a.alone.setting (past_of a.alone.seen) ≡ [] → DeliversSome called a b → b ≡ a
none_some [] a b none d = d
none_some (c ∷ called) a b none d =
    let h = owner_called _ 0 a.alone d.2.1 d.2.2 in
    absurd (let e : first [] ≡ Some d.2.0.call.number = ap first (sym none) ∙ h.meant.1 in cc)

pub none_delivered : {B : Type 0} (a b : Caller B) → ready a.alone.setting (past_of a.alone.seen) ≡ [] → DeliversAll a b → b ≡ a
none_delivered a b none d = same_none d.middle b d.none ∙ none_some d.called a d.middle none d.some

-- ---- the taken requests, where nothing is pending and nothing ready

-- a run has no number below its first
run_before : (n k m : ℕ) → n < k → occurrences n (range_with_len k m) ≡ 0
run_before n k zero lt = refl
run_before n k (suc m) lt = rw (ne_eqb k n (λ e. omega (arith, lt, e))) (run_before n (k + 1) m (omega (arith, lt)))

-- a number of a run stands in it once at most, so a request that stands among the accepted stands there once
stands_once : (n from len : ℕ) → occurrences n (range_with_len from len) ≤ 1
stands_once n from zero = omega arith
stands_once n from (suc len) = by (from == n) refl (stands_once n (from + 1) len)
  where
    by : (b : Bool) → (from == n) ≡ b → occurrences n (range_with_len (from + 1) len) ≤ 1 → cond b (occurrences n (range_with_len (from + 1) len) + 1) (occurrences n (range_with_len (from + 1) len)) ≤ 1
    by true is rest = omega (arith, run_before n (from + 1) len (omega (arith, eqb-true from n is)))
    by false is rest = rest

-- none of those that a test passes fails it
all_fail : (test : ℕ → Bool) (n : ℕ) (ns : List ℕ) → filter test ns ≡ [] → 1 ≤ occurrences n ns → test n ≡ false
all_fail test n [] none some = absurd (omega (arith, some))
all_fail test n (m ∷ ns) none some = by (test m) (m == n) refl refl (all_fail test n ns) none some
  where
    by : (b c : Bool) → test m ≡ b → (m == n) ≡ c → (filter test ns ≡ [] → 1 ≤ occurrences n ns → test n ≡ false) → cond b (m ∷ filter test ns) (filter test ns) ≡ [] → 1 ≤ cond c (occurrences n ns + 1) (occurrences n ns) → test n ≡ false
    by true c at same rest none some = absurd (cc none)
    by false true at same rest none some = ap test (sym (eqb-true m n same)) ∙ at
    by false false at same rest none some = rest none some

module _ (setting : Setting) (past : Past) (lawful : IsLawfulPast setting past) (none_pending : pending setting past ≡ []) (none_ready : ready setting past ≡ []) where
  taken_are : completions setting past ≡ taken past
  taken_are = taken_then_ready setting past lawful ∙ ap (λ ns. taken past ++ ns) none_ready ∙ append-nil (taken past)

  -- as often as it was accepted
  pub taken_once_each : (request : ℕ) → occurrences request (taken past) ≡ occurrences request (requests past)
  taken_once_each request =
      ap (occurrences request) (sym taken_are) ∙ completes_once setting request past lawful ∙ by (occurrences request (requests past)) refl (subst (λ ns. occurrences request ns ≤ 1) (sym (requests_numbered setting past lawful)) (stands_once request 1 (length (accepted past))))
    where
      fated : 1 ≤ occurrences request (requests past) → is_none (fate setting request past) ≡ false
      fated some = all_fail (is_open setting past) request (requests past) none_pending some

      of_fate : (found : Option Answer) → is_none found ≡ false → ◌≡◌ {A = ℕ} (cond (is_some found) 1 0) 1
      of_fate None is = absurd (cc is)
      of_fate (Some a) is = refl

      by : (n : ℕ) → occurrences request (requests past) ≡ n → occurrences request (requests past) ≤ 1 → ◌≡◌ {A = ℕ} (cond (is_some (fate setting request past)) 1 0) (occurrences request (requests past))
      by zero is most = ap (λ found. cond (is_some found) 1 0) (unasked_fate setting request past is) ∙ sym is
      by (suc n) is most = of_fate (fate setting request past) (fated (omega (arith, is))) ∙ omega (arith, is, most)
