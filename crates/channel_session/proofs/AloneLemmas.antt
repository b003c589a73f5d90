-- A desk that has its channel alone, as its one owner has: what a session took there, and that nobody disturbs it.
use Rattle.std.proofs.Common.{List, [], ap, append_assoc, arith, inl, inr, length, length-append, refl, sym, true, false, Bool, ℕ, ◌++◌, ◌+◌, ◌∙◌, ◌∷◌, ◌≡◌, ◌≤◌, ◌==◌}
use Rattle.std.specs.List.{cons_option}
use Rattle.std.specs.Prelude.{None, Option, Some, cond, filter_map, option_to_list, ◌≢◌, ◌⊎◌}
use Rattle.std.proofs.lemmas.List.{append-nil, append_cancel_left}
use Rattle.chan_types.specs.declared.journal.Entry.{Entry}
use Rattle.channel_model.proofs.Theorems.{followed_by-append}
use Rattle.channel_model.specs.Completion.{pending, ready, taken, taken_by}
use Rattle.channel_model.specs.Journal.{Past, followed_by, own_entries, past_of}
use Rattle.channel_model.specs.Known.{GoesOn, Known}
use Rattle.channel_session.specs.Advancing.{taken_in}
use Rattle.channel_session.specs.Left.{pending_of, ready_of}
use Rattle.channel_session.specs.Progressing.{IsDisturbed}

-- a desk made all that stands in its channel's journal
abbrev pub IsAlone : Known → Type 0
IsAlone known = known.own ≡ known.seen

-- a seat has at most all entries
few_own : (seat : ℕ) (es : List Entry) → length (own_entries seat es) ≤ length es
few_own seat [] = omega arith
few_own seat (e ∷ es) = by (e.seat == seat) (few_own seat es)
  where
    by : (b : Bool) → length (own_entries seat es) ≤ length es → length (cond b (e ∷ own_entries seat es) (own_entries seat es)) ≤ length (e ∷ es)
    by true few = omega (arith, few)
    by false few = omega (arith, few)

-- where a desk goes on, it made at most all that came
few_new : (a b : Known) → GoesOn a b → length b.own + length a.seen ≤ length b.seen + length a.own
few_new a b goes =
    omega (arith, few_own a.seat goes.since, ap length goes.seen, ap length goes.own, length-append a.seen goes.since, length-append a.own (own_entries a.seat goes.since))

none_long : {A : Type 0} (xs : List A) → length xs ≡ 0 → xs ≡ []
none_long [] none = refl
none_long (x ∷ xs) none = absurd (omega (arith, none))

-- what came is the desk's own
pub alone_since : (a b : Known) → IsAlone a → IsAlone b → (goes : GoesOn a b) → own_entries a.seat goes.since ≡ goes.since
alone_since a b before behind goes =
    append_cancel_left a.seen (own_entries a.seat goes.since) goes.since (ap (λ es. es ++ own_entries a.seat goes.since) (sym before) ∙ sym goes.own ∙ behind ∙ goes.seen)

one_or_none : {A : Type 0} (found : Option A) (others : List A) → option_to_list found ++ others ≡ cons_option found others
one_or_none None others = refl
one_or_none (Some item) others = refl

-- the requests that were taken, where entries stand behind a past
pub taken_behind : (past : Past) (es : List Entry) → taken (followed_by past es) ≡ taken past ++ filter_map (λ entry. taken_by entry.what) es
taken_behind past [] = sym (append-nil (taken past))
taken_behind past (e ∷ es) =
    taken_behind (e.what ∷ past) es ∙ append_assoc (taken past) (option_to_list (taken_by e.what)) (filter_map (λ entry. taken_by entry.what) es)
    ∙ ap (λ numbers. taken past ++ numbers) (one_or_none (taken_by e.what) (filter_map (λ entry. taken_by entry.what) es))

-- what its own entries take is what was taken
pub taken_alone : (a b : Known) → IsAlone a → IsAlone b → (goes : GoesOn a b) → taken (past_of b.seen) ≡ taken (past_of a.seen) ++ taken_in a.seat goes.since
taken_alone a b before behind goes =
    ap (λ es. taken (past_of es)) goes.seen ∙ ap taken (followed_by-append [] a.seen goes.since) ∙ taken_behind (past_of a.seen) goes.since
    ∙ ap (λ es. taken (past_of a.seen) ++ filter_map (λ entry. taken_by entry.what) es) (sym (alone_since a b before behind goes))

-- nobody else changes its channel
pub undisturbed : (a b : Known) → IsAlone a → IsAlone b → IsDisturbed a b → ⊥
undisturbed a b before behind x = by x.changed
  where
    middle : x.looked.goes_on.since ≡ []
    middle = none_long x.looked.goes_on.since (omega (
      arith,
      few_new a x.before x.from,
      few_new x.after b x.then_,
      ap length before,
      ap length behind,
      ap length x.looked.own,
      ap length x.looked.goes_on.seen,
      length-append x.before.seen x.looked.goes_on.since,
    ))

    seen : x.after.seen ≡ x.before.seen
    seen = x.looked.goes_on.seen ∙ ap (λ es. x.before.seen ++ es) middle ∙ append-nil x.before.seen

    same_ready : ready_of x.after ≡ ready_of x.before
    same_ready = ap (λ setting. ready setting (past_of x.after.seen)) x.looked.goes_on.desk.setting ∙ ap (λ es. ready x.before.setting (past_of es)) seen

    same_pending : pending_of x.after ≡ pending_of x.before
    same_pending = ap (λ setting. pending setting (past_of x.after.seen)) x.looked.goes_on.desk.setting ∙ ap (λ es. pending x.before.setting (past_of es)) seen

    by : ((ready_of x.before ≡ []) × (ready_of x.after ≢ [])) ⊎ ((pending_of x.before ≢ []) × (pending_of x.after ≡ [])) → ⊥
    by (inl more) = more.1 (same_ready ∙ more.0)
    by (inr fewer) = fewer.0 (sym same_pending ∙ fewer.1)
