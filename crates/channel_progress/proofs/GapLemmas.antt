-- What stands between two turns: where no request is accepted there, the attempts left fall, or only what was ready is taken.
use Rattle.std.proofs.Common.{◌≡◌, ◌∙◌, ℕ, Bool, true, false, List, [], ◌∷◌, Option, Some, None, refl, ap, sym, subst, length, inl, inr, ◌⊎◌, ⊎_elim, eqb-true, true≢false}
use Rattle.std.proofs.lemmas.Bool.{and_parts, or_cases, or_parts}
use Rattle.std.specs.List.{AllByRecursion}
use Rattle.std.specs.Prelude.{is_none, is_some, not, option_map, ◌==◌}
use Rattle.chan_types.specs.declared.journal.Entry.{Entry}
use Rattle.chan_types.specs.declared.journal.What.{What}
use Rattle.chan_types.specs.declared.journal.What.TheVariants.{Accept, Arrive, Cancel, Destroy, Expire, Fault, Servers, Start, Take}
use Rattle.chan_types.specs.declared.spec.Spec.{Spec}
use Rattle.chan_types.specs.declared.status.Status.{Status}
use Rattle.chan_types.specs.declared.status.Status.TheVariants.{Cancelled, Destruction}
use Rattle.channel_model.proofs.Theorems.{pending-behind, take-pending}
use Rattle.channel_model.specs.Completion.{bare_if_accepted, completed_by, pending, ready}
use Rattle.channel_model.specs.Course.{has_no_turn, is_of_turn}
use Rattle.channel_model.specs.Journal.{Past, accepted_by, followed_by}
use Rattle.channel_model.specs.Lawful.{first}
use Rattle.channel_model.specs.Merge.{bare}
use Rattle.channel_model.specs.Setting.{Setting}
use Rattle.channel_model.specs.Turn.{parts_of_entry, somewhere}
use Rattle.channel_progress.specs.Prompted.{accepts_some}
use Rattle.channel_progress.proofs.AskingLemmas.{pending_says}
use Rattle.channel_progress.proofs.EntryLemmas.{completes_falls, entries_keep, entry_keeps, set_falls}
use Rattle.channel_progress.proofs.FallLemmas.{Falls, falls_then, then_falls}
use Rattle.channel_progress.proofs.FitLemmas.{IsFit, fit_before, fit_one}
use Rattle.channel_progress.proofs.ListLemmas.{Has, has-filter, length-none}

-- the entries take ready requests alone
abbrev pub AreTakes : List Entry → Type 0
AreTakes entries = AllByRecursion (λ (entry : Entry). (number : ℕ) × (entry.what ≡ Take number)) entries

-- a list whose length isn't 0 has an item
pub some_there : {X : Type 0} (xs : List X) → not (length xs == 0) ≡ true → (x : X) × Has x xs
some_there [] e = absurd (true≢false (sym e))
some_there (x ∷ xs) e = (x, inl refl)

-- an entry that accepts something is an Accept
accepts_none : (what : What) → is_some (accepted_by what) ≡ false → accepted_by what ≡ None
accepts_none (Accept number spec script) e = absurd (true≢false e)
accepts_none Cancel e = refl
accepts_none Destroy e = refl
accepts_none (Take number) e = refl
accepts_none (Start number leg server link id mix moment) e = refl
accepts_none (Arrive server link bytes) e = refl
accepts_none (Expire number leg moment) e = refl
accepts_none (Fault server link moment) e = refl
accepts_none (Servers list) e = refl

module _ (setting : Setting) where
  -- here a request is pending
  abbrev pub is_some_pending : Past → Bool
  is_some_pending past = not (length (pending setting past) == 0)

  -- here none is ready
  abbrev pub is_none_ready : Past → Bool
  is_none_ready past = length (ready setting past) == 0

  -- where none is accepted and a request is pending later, one is now
  pub pends_before : (past : Past) (entries : List Entry) → accepts_some entries ≡ false → somewhere is_some_pending past entries ≡ true → (request : ℕ) × Has request (pending setting past)
  pends_before past [] none e = some_there (pending setting past) e
  pends_before past (entry ∷ entries) none e = ⊎_elim
      (λ (here : is_some_pending past ≡ true). some_there (pending setting past) here)
      (λ (later : somewhere is_some_pending (entry.what ∷ past) entries ≡ true).
      let parts = or_parts (is_some (accepted_by entry.what)) (accepts_some entries) none in
      let from = pends_before (entry.what ∷ past) entries parts.1 later in
      let here = has-filter from.0 (λ number. is_none (completed_by setting number entry.what past)) (pending setting past) (subst (Has from.0) (pending-behind setting entry.what past (accepts_none entry.what parts.0)) from.1) in
      (from.0, here.0))
      (or_cases (is_some_pending past) (somewhere is_some_pending (entry.what ∷ past) entries) e)

  -- where nothing is ready, no Take is lawful
  no_take : (past : Past) (number : ℕ) → ready setting past ≡ [] → first (ready setting past) ≡ Some number → ⊥
  no_take past number none e = none_some (sym (ap first none) ∙ e)
    where
      none_some : ◌≡◌ {A = Option ℕ} None (Some number) → ⊥
      none_some e = absurd cc

module _ (setting : Setting) (end : Past) where
  -- what a Take takes is ready
  take_lawful : (past : Past) (what : What) (number : ℕ) → what ≡ Take number → IsFit setting end (what ∷ past) → first (ready setting past) ≡ Some number
  take_lawful past what number is fit = (subst (λ w. IsFit setting end (w ∷ past)) is fit).lawful.0

  -- where nothing is ready, nothing is taken
  pub takes_none : (past : Past) (entries : List Entry) → ready setting past ≡ [] → AreTakes entries → IsFit setting end (followed_by past entries) → entries ≡ []
  takes_none past [] none takes fit = refl
  takes_none past (entry ∷ entries) none takes fit =
      absurd (no_take setting past takes.0.0 none (take_lawful past entry.what takes.0.0 takes.0.1 (fit_before setting end (entry.what ∷ past) entries fit)))

  -- where all that was ready is taken, nothing is then
  pub takes_all : (past : Past) (entries : List Entry) → AreTakes entries → IsFit setting end (followed_by past entries) → somewhere (is_none_ready setting) past entries ≡ true → ready setting (followed_by past entries) ≡ []
  takes_all past [] takes fit e = length-none (ready setting past) (eqb-true (length (ready setting past)) 0 e)
  takes_all past (entry ∷ entries) takes fit e = ⊎_elim
      (λ (here : is_none_ready setting past ≡ true).
      absurd (no_take setting past takes.0.0 (length-none (ready setting past) (eqb-true (length (ready setting past)) 0 here)) (take_lawful past entry.what takes.0.0 takes.0.1 (fit_before setting end (entry.what ∷ past) entries fit))))
      (λ (later : somewhere (is_none_ready setting) (entry.what ∷ past) entries ≡ true). takes_all (entry.what ∷ past) entries takes.1 fit later)
      (or_cases (is_none_ready setting past) (somewhere (is_none_ready setting) (entry.what ∷ past) entries) e)

  -- a Cancel or a Destroy lets the attempts left fall where a request is pending
  ends_falls : (what : What) (past : Past) (request : ℕ) (status : Status) → accepted_by what ≡ None → completed_by setting request what past ≡ bare_if_accepted request status past → IsFit setting end past → Has request (pending setting past)
      → Falls setting end past (what ∷ past)
  ends_falls what past request status accepts is fit pends =
      let says = pending_says setting past request pends in
      completes_falls setting end what past request accepts fit pends
      (ap is_none (is ∙ ap (option_map (λ (spec : Spec). bare request status [])) says.1))

  -- where no request is accepted between two turns, and one is pending, the attempts left fall there, or requests are taken and nothing else is done
  pub takes_or_falls : (past : Past) (entries : List Entry) (request : ℕ) → has_no_turn entries ≡ true → accepts_some entries ≡ false → IsFit setting end (followed_by past entries) → Has request (pending setting past)
      → Falls setting end past (followed_by past entries) ⊎ AreTakes entries
  takes_or_falls past [] request no_turn none fit pends = inr tt
  takes_or_falls past (entry ∷ entries) request no_turn none fit pends =
      let kind = and_parts (not (is_of_turn entry)) (has_no_turn entries) no_turn in
      let accepts = or_parts (is_some (accepted_by entry.what)) (accepts_some entries) none in
      by_what entry.what refl kind.0 accepts.0 fit (takes_or_falls (entry.what ∷ past) entries request kind.1 accepts.1 fit)
    where
      ends : (what : What) (status : Status) → accepted_by what ≡ None → completed_by setting request what past ≡ bare_if_accepted request status past → IsFit setting end (followed_by (what ∷ past) entries)
          → Falls setting end past (followed_by (what ∷ past) entries) ⊎ AreTakes (entry ∷ entries)
      ends what status accepts is fit =
          inl (falls_then setting end past (what ∷ past) (followed_by (what ∷ past) entries)
          (ends_falls what past request status accepts is (fit_one setting end what past (fit_before setting end (what ∷ past) entries fit)) pends) (entries_keep setting end (what ∷ past) entries fit))

      by_what : (what : What) → entry.what ≡ what → not (not (length (parts_of_entry what) == 0)) ≡ true → is_some (accepted_by what) ≡ false → IsFit setting end (followed_by (what ∷ past) entries)
          → (Has request (pending setting (what ∷ past)) → Falls setting end (what ∷ past) (followed_by (what ∷ past) entries) ⊎ AreTakes entries) → Falls setting end past (followed_by (what ∷ past) entries) ⊎ AreTakes (entry ∷ entries)
      by_what (Accept number spec script) is kind accepts fit rest = absurd (true≢false accepts)
      by_what Cancel is kind accepts fit rest = ends Cancel Cancelled refl refl fit
      by_what Destroy is kind accepts fit rest = ends Destroy Destruction refl refl fit
      by_what (Take number) is kind accepts fit rest = ⊎_elim
          (λ (falls : Falls setting end (Take number ∷ past) (followed_by (Take number ∷ past) entries)).
          inl (then_falls setting end past (Take number ∷ past) (followed_by (Take number ∷ past) entries) (entry_keeps setting end (Take number) past (fit_before setting end (Take number ∷ past) entries fit)) falls))
          (λ (takes : AreTakes entries). inr ((number, is), takes))
          (rest (subst (Has request) (sym (take-pending setting past number)) pends))
      by_what (Start number leg server link id mix moment) is kind accepts fit rest = absurd (true≢false (sym kind))
      by_what (Arrive server link bytes) is kind accepts fit rest = absurd (true≢false (sym kind))
      by_what (Expire number leg moment) is kind accepts fit rest = absurd (true≢false (sym kind))
      by_what (Fault server link moment) is kind accepts fit rest = absurd (true≢false (sym kind))
      by_what (Servers list) is kind accepts fit rest =
          inl (falls_then setting end past (Servers list ∷ past) (followed_by (Servers list ∷ past) entries)
          (set_falls setting end list past request (fit_one setting end (Servers list) past (fit_before setting end (Servers list ∷ past) entries fit)) pends) (entries_keep setting end (Servers list ∷ past) entries fit))
