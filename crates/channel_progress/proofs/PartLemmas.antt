-- The parts of a turn of a channel with one seat: in each of them the attempts left fall, or what a run looks at stays but for what the part is for.
use Rattle.std.proofs.Common.{◌≡◌, ◌∙◌, ℕ, true, false, List, [], ◌∷◌, ◌++◌, Option, Some, None, refl, ap, sym, subst, inl, inr, ◌⊎◌, ⊎_elim, true≢false}
use Rattle.std.proofs.lemmas.Bool.{cases_Bool}
use Rattle.std.proofs.lemmas.List.{append-nil}
use Rattle.std.specs.List.{AllByRecursion, list_any}
use Rattle.std.specs.Prelude.{filter, is_none, is_some}
use Rattle.chan_types.specs.declared.answer.Answer.{Answer}
use Rattle.chan_types.specs.declared.journal.Entry.{Entry}
use Rattle.chan_types.specs.declared.journal.What.{What}
use Rattle.chan_types.specs.declared.journal.What.TheVariants.{Accept, Arrive, Cancel, Destroy, Expire, Fault, Servers, Start, Take}
use Rattle.channel_model.proofs.Theorems.{ready-behind}
use Rattle.channel_model.specs.Completion.{completed_by, pending, ready, taken_by}
use Rattle.channel_model.specs.Flight.{closes, in_flight}
use Rattle.channel_model.specs.Journal.{Past, accepted_by, followed_by}
use Rattle.channel_model.specs.Setting.{Setting}
use Rattle.channel_model.specs.Turn.{closing, expiring, receiving, starting, writing}
use Rattle.channel_progress.proofs.EntryLemmas.{completes_falls, entries_keep, entry_keeps, expire_falls, fault_falls}
use Rattle.channel_progress.proofs.FallLemmas.{Falls, falls_then, then_falls}
use Rattle.channel_progress.proofs.FitLemmas.{IsFit, fit_before, fit_one}
use Rattle.channel_progress.proofs.ListLemmas.{Has, has-filter}
use Rattle.channel_progress.proofs.ViewLemmas.{BeginsAll, SameView, begins_refl, begins_trans, fault_begins, fault_same, same_refl, same_trans, start_begins}
use Rattle.channel_progress.proofs.OfPartLemmas.{AreOfPart, IsOfPart}

module _ (setting : Setting) (end : Past) where
  -- where at each entry the attempts left fall or a relation holds, over all entries they fall or it holds
  stretch : (R : Past → Past → Type 0) (Q : What → Type 0) → ((p : Past) → R p p) → ((a b c : Past) → R a b → R b c → R a c)
      → ((what : What) (past : Past) → Q what → IsFit setting end (what ∷ past) → Falls setting end past (what ∷ past) ⊎ R past (what ∷ past))
      → (past : Past) (entries : List Entry) → AllByRecursion (λ entry. Q entry.what) entries → IsFit setting end (followed_by past entries)
      → Falls setting end past (followed_by past entries) ⊎ R past (followed_by past entries)
  stretch R Q none trans step past [] kinds fit = inr (none past)
  stretch R Q none trans step past (entry ∷ entries) kinds fit =
      let one = fit_before setting end (entry.what ∷ past) entries fit in
      ⊎_elim
      (λ falls. inl (falls_then setting end past (entry.what ∷ past) (followed_by (entry.what ∷ past) entries) falls (entries_keep setting end (entry.what ∷ past) entries fit)))
      (λ here. ⊎_elim
      (λ falls. inl (then_falls setting end past (entry.what ∷ past) (followed_by (entry.what ∷ past) entries) (entry_keeps setting end entry.what past one) falls))
      (λ rest. inr (trans past (entry.what ∷ past) (followed_by (entry.what ∷ past) entries) here rest))
      (stretch R Q none trans step (entry.what ∷ past) entries kinds.1 fit))
      (step entry.what past kinds.0 one)

  by_completed : (what : What) (past : Past) → accepted_by what ≡ None → taken_by what ≡ None → IsFit setting end past → Falls setting end past (what ∷ past) ⊎ (ready setting (what ∷ past) ≡ ready setting past)
  by_completed what past accepts takes fit = by_list (filter (λ number. is_some (completed_by setting number what past)) (pending setting past)) refl
    where
      some_not_none : (o : Option Answer) → is_some o ≡ true → is_none o ≡ false
      some_not_none None e = absurd (true≢false (sym e))
      some_not_none (Some a) e = refl

      by_list : (numbers : List ℕ) → filter (λ number. is_some (completed_by setting number what past)) (pending setting past) ≡ numbers → Falls setting end past (what ∷ past) ⊎ (ready setting (what ∷ past) ≡ ready setting past)
      by_list [] is = inr (ready-behind setting what past accepts takes ∙ ap (λ numbers. ready setting past ++ numbers) is ∙ append-nil (ready setting past))
      by_list (number ∷ numbers) is =
          let there = has-filter number (λ n. is_some (completed_by setting n what past)) (pending setting past) (subst (Has number) (sym is) (inl refl)) in
          inl (completes_falls setting end what past number accepts fit there.0 (some_not_none (completed_by setting number what past) there.1))

  by_closed : {P : Type 0} (server link moment : ℕ) (past : Past) → IsFit setting end past → (list_any (λ a. closes setting a (Fault server link moment) past) (in_flight setting past) ≡ false → P) → Falls setting end past (Fault server link moment ∷ past) ⊎ P
  by_closed server link moment past fit quiet = ⊎_elim
      (λ closed. inl (fault_falls setting end server link moment past fit closed))
      (λ none. inr (quiet none))
      (cases_Bool (list_any (λ a. closes setting a (Fault server link moment) past) (in_flight setting past)))

  -- receiving: a message or a fault
  receive_step : (what : What) (past : Past) → IsOfPart receiving what → IsFit setting end (what ∷ past) → Falls setting end past (what ∷ past) ⊎ (ready setting (what ∷ past) ≡ ready setting past)
  receive_step (Accept number spec script) past kind fit = absurd (true≢false (sym kind))
  receive_step Cancel past kind fit = absurd (true≢false (sym kind))
  receive_step Destroy past kind fit = absurd (true≢false (sym kind))
  receive_step (Take number) past kind fit = absurd (true≢false (sym kind))
  receive_step (Start number leg server link id mix moment) past kind fit = absurd (true≢false (sym kind))
  receive_step (Arrive server link bytes) past kind fit = by_completed (Arrive server link bytes) past refl refl (fit_one setting end (Arrive server link bytes) past fit)
  receive_step (Expire number leg moment) past kind fit = absurd (true≢false (sym kind))
  receive_step (Fault server link moment) past kind fit = by_completed (Fault server link moment) past refl refl (fit_one setting end (Fault server link moment) past fit)
  receive_step (Servers list) past kind fit = absurd (true≢false (sym kind))

  -- while it receives, the attempts left fall, or the same is ready
  pub receives : (past : Past) (entries : List Entry) → AreOfPart receiving entries → IsFit setting end (followed_by past entries) → Falls setting end past (followed_by past entries) ⊎ (ready setting (followed_by past entries) ≡ ready setting past)
  receives past entries kinds fit = stretch (λ old new. ready setting new ≡ ready setting old) (IsOfPart receiving) (λ p. refl) (λ a b c x y. y ∙ x) receive_step past entries kinds fit

  -- expiring: each Expire lets them fall
  expire_step : (what : What) (past : Past) → IsOfPart expiring what → IsFit setting end (what ∷ past) → Falls setting end past (what ∷ past)
  expire_step (Accept number spec script) past kind fit = absurd (true≢false (sym kind))
  expire_step Cancel past kind fit = absurd (true≢false (sym kind))
  expire_step Destroy past kind fit = absurd (true≢false (sym kind))
  expire_step (Take number) past kind fit = absurd (true≢false (sym kind))
  expire_step (Start number leg server link id mix moment) past kind fit = absurd (true≢false (sym kind))
  expire_step (Arrive server link bytes) past kind fit = absurd (true≢false (sym kind))
  expire_step (Expire number leg moment) past kind fit = expire_falls setting end number leg moment past fit
  expire_step (Fault server link moment) past kind fit = absurd (true≢false (sym kind))
  expire_step (Servers list) past kind fit = absurd (true≢false (sym kind))

  -- while it lets expire, they fall, or it did nothing
  pub expires : (past : Past) (entries : List Entry) → AreOfPart expiring entries → IsFit setting end (followed_by past entries) → Falls setting end past (followed_by past entries) ⊎ (entries ≡ [])
  expires past [] kinds fit = inr refl
  expires past (entry ∷ entries) kinds fit =
      inl (falls_then setting end past (entry.what ∷ past) (followed_by (entry.what ∷ past) entries) (expire_step entry.what past kinds.0 (fit_before setting end (entry.what ∷ past) entries fit))
      (entries_keep setting end (entry.what ∷ past) entries fit))

  -- starting: a Start puts an attempt in flight, and a Fault may end some
  start_step : (what : What) (past : Past) → IsOfPart starting what → IsFit setting end (what ∷ past) → Falls setting end past (what ∷ past) ⊎ BeginsAll setting past (what ∷ past)
  start_step (Accept number spec script) past kind fit = absurd (true≢false (sym kind))
  start_step Cancel past kind fit = absurd (true≢false (sym kind))
  start_step Destroy past kind fit = absurd (true≢false (sym kind))
  start_step (Take number) past kind fit = absurd (true≢false (sym kind))
  start_step (Start number leg server link id mix moment) past kind fit = inr (start_begins setting number leg server link id mix moment past fit.lawful)
  start_step (Arrive server link bytes) past kind fit = absurd (true≢false (sym kind))
  start_step (Expire number leg moment) past kind fit = absurd (true≢false (sym kind))
  start_step (Fault server link moment) past kind fit = by_closed server link moment past (fit_one setting end (Fault server link moment) past fit) (fault_begins setting server link moment past fit.lawful.1)
  start_step (Servers list) past kind fit = absurd (true≢false (sym kind))

  -- while it starts, they fall, or all that it began is in flight
  pub starts : (past : Past) (entries : List Entry) → AreOfPart starting entries → IsFit setting end (followed_by past entries) → Falls setting end past (followed_by past entries) ⊎ BeginsAll setting past (followed_by past entries)
  starts past entries kinds fit = stretch (BeginsAll setting) (IsOfPart starting) (begins_refl setting) (begins_trans setting) start_step past entries kinds fit

  -- writing: a Fault may end attempts
  write_step : (what : What) (past : Past) → IsOfPart writing what → IsFit setting end (what ∷ past) → Falls setting end past (what ∷ past) ⊎ SameView setting past (what ∷ past)
  write_step (Accept number spec script) past kind fit = absurd (true≢false (sym kind))
  write_step Cancel past kind fit = absurd (true≢false (sym kind))
  write_step Destroy past kind fit = absurd (true≢false (sym kind))
  write_step (Take number) past kind fit = absurd (true≢false (sym kind))
  write_step (Start number leg server link id mix moment) past kind fit = absurd (true≢false (sym kind))
  write_step (Arrive server link bytes) past kind fit = absurd (true≢false (sym kind))
  write_step (Expire number leg moment) past kind fit = absurd (true≢false (sym kind))
  write_step (Fault server link moment) past kind fit = by_closed server link moment past (fit_one setting end (Fault server link moment) past fit) (fault_same setting server link moment past fit.lawful.1)
  write_step (Servers list) past kind fit = absurd (true≢false (sym kind))

  -- while it writes, they fall, or all is the same
  pub writes : (past : Past) (entries : List Entry) → AreOfPart writing entries → IsFit setting end (followed_by past entries) → Falls setting end past (followed_by past entries) ⊎ SameView setting past (followed_by past entries)
  writes past entries kinds fit = stretch (SameView setting) (IsOfPart writing) (same_refl setting) (same_trans setting) write_step past entries kinds fit

-- a turn closes links without an entry
pub closes_alone : (entries : List Entry) → AreOfPart closing entries → entries ≡ []
closes_alone [] kinds = refl
closes_alone (entry ∷ entries) kinds = absurd (by_what entry.what kinds.0)
  where
    by_what : (what : What) → IsOfPart closing what → ⊥
    by_what (Accept number spec script) kind = true≢false (sym kind)
    by_what Cancel kind = true≢false (sym kind)
    by_what Destroy kind = true≢false (sym kind)
    by_what (Take number) kind = true≢false (sym kind)
    by_what (Start number leg server link id mix moment) kind = true≢false (sym kind)
    by_what (Arrive server link bytes) kind = true≢false (sym kind)
    by_what (Expire number leg moment) kind = true≢false (sym kind)
    by_what (Fault server link moment) kind = true≢false (sym kind)
    by_what (Servers list) kind = true≢false (sym kind)
