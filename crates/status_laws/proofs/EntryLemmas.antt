-- The entry that completed a request: there is one, and before it the request had no answer; and what is so of a request before an entry.
use Rattle.std.proofs.Common.{arith, suc, sym, zero, ◌∙◌}
use Rattle.std.specs.Option.{option_or}
use Rattle.std.specs.Prelude.{List, None, Option, Some, [], filter, refl, ℕ, ◌∷◌, ◌≡◌, ◌≤◌, ◌++◌}
use Rattle.chan_types.specs.declared.answer.Answer.{Answer}
use Rattle.chan_types.specs.declared.journal.What.{What}
use Rattle.channel_model.proofs.CountLemmas.{occurrences-filter}
use Rattle.channel_model.proofs.ListLemmas.{none_is_some}
use Rattle.channel_model.proofs.Theorems.{fate-one, unasked_flight}
use Rattle.channel_model.specs.Completion.{completed_by, fate, is_open, occurrences, requests}
use Rattle.channel_model.specs.Flight.{Attempt, flight}
use Rattle.channel_model.specs.Journal.{Past}
use Rattle.channel_model.specs.Lawful.{IsLawfulPast}
use Rattle.channel_model.specs.Legs.{leg_of}
use Rattle.channel_model.specs.Setting.{Setting}
use Rattle.status_laws.proofs.PositionLemmas.{behind, held, here, kept}
use Rattle.status_laws.specs.Positions.{Completes, IsPending, StandsAt}

module _ (setting : Setting) (request : ℕ) where
  -- an entry completed the request with this answer
  abbrev pub CompletedBy : Answer → Past → Type 0
  CompletedBy answer past = (what : What) × (before : Past) × StandsAt what before past × Completes setting request answer what before

  -- a request that has an answer was completed by an entry
  pub completed : (answer : Answer) (past : Past) → fate setting request past ≡ Some answer → CompletedBy answer past
  completed answer [] e = none_is_some answer e
  completed answer (what ∷ past) e = by_before (fate setting request past) refl e (completed answer past)
    where
      by_before : (o : Option Answer) → fate setting request past ≡ o → option_or o (completed_by setting request what past) ≡ Some answer
          → (fate setting request past ≡ Some answer → CompletedBy answer past) → CompletedBy answer (what ∷ past)
      by_before None is e rest = (what, past, here what past, record { open' = is; given = e })
      by_before (Some a) is e rest = let r = rest (is ∙ e) in (r.0, r.1, behind what r.0 r.1 past r.2, r.3)

  -- and one that an entry completed has that answer ever since
  pub completed_since : (answer : Answer) (past : Past) (what : What) (before : Past) → StandsAt what before past
      → Completes setting request answer what before → fate setting request past ≡ Some answer
  completed_since answer past what before stands c =
      kept (λ (p : Past). fate setting request p ≡ Some answer) what before past stands (fate-one setting request answer) (rw (c.open', c.given) refl)

  -- two entries that completed it are one, at one position
  one_entry : (first second : Answer) (what other : What) (before earlier : Past)
      → Completes setting request first what before → Completes setting request second other earlier
      → (newer later : List What) → newer ++ what ∷ before ≡ later ++ other ∷ earlier → (what ≡ other) × (before ≡ earlier)
  one_entry first second what other before earlier c d [] [] e = (cc, cc)
  one_entry first second what other before earlier c d [] (y ∷ later) e =
      let rest : before ≡ later ++ other ∷ earlier = cc in
      none_is_some second (sym c.open' ∙ completed_since second before other earlier (record { newer = later; parts = rest }) d)
  one_entry first second what other before earlier c d (x ∷ newer) [] e =
      let rest : earlier ≡ newer ++ what ∷ before = cc in
      none_is_some first (sym d.open' ∙ completed_since first earlier what before (record { newer = newer; parts = rest }) c)
  one_entry first second what other before earlier c d (x ∷ newer) (y ∷ later) e =
      let rest : newer ++ what ∷ before ≡ later ++ other ∷ earlier = cc in
      one_entry first second what other before earlier c d newer later rest

  -- in any past
  pub completed_once : (first second : Answer) (past : Past) (what other : What) (before earlier : Past)
      → StandsAt what before past → Completes setting request first what before
      → StandsAt other earlier past → Completes setting request second other earlier → (what ≡ other) × (before ≡ earlier)
  completed_once first second past what other before earlier s c t d =
      one_entry first second what other before earlier c d s.newer t.newer (sym s.parts ∙ t.parts)

  -- the past without its last entry
  abbrev older : Past → Past
  older [] = []
  older (what ∷ past) = past

  -- a request that had no answer had none before
  pub open_before : (what next : What) (before past : Past) → StandsAt what before (next ∷ past) → fate setting request past ≡ None
      → fate setting request before ≡ None
  open_before what next before past stands open' =
      held (λ (p : Past). fate setting request (older p) ≡ None) what before (next ∷ past) stands (λ x p none. less p none) open'
    where
      less : (p : Past) → fate setting request p ≡ None → fate setting request (older p) ≡ None
      less [] none = refl
      less (x ∷ p) none = by_before (fate setting request p) none
        where
          by_before : (o : Option Answer) → option_or o (completed_by setting request x p) ≡ None → o ≡ None
          by_before None e = refl
          by_before (Some a) e = absurd cc

  -- what stands before is lawful
  pub lawful_before : (what : What) (before past : Past) → StandsAt what before past → IsLawfulPast setting past → IsLawfulPast setting (what ∷ before)
  lawful_before what before past stands lawful = held (IsLawfulPast setting) what before past stands (λ x p l. l.1) lawful

  -- an accepted request without an answer is pending
  pub pends : (past : Past) → 1 ≤ occurrences request (requests past) → fate setting request past ≡ None → IsPending setting request past
  pends past asked open' =
      let says : occurrences request (filter (is_open setting past) (requests past)) ≡ occurrences request (requests past) = occurrences-filter
      (is_open setting past) request (requests past) ∙ rw open' refl in
      omega (arith, asked, says)

  -- a request with a leg in flight was accepted
  pub flown_asked : (past : Past) (number : ℕ) (a : Attempt) → IsLawfulPast setting past → flight setting (leg_of request number) past ≡ Some a
      → 1 ≤ occurrences request (requests past)
  flown_asked past number a lawful flies = by_count (occurrences request (requests past)) refl
    where
      by_count : (n : ℕ) → occurrences request (requests past) ≡ n → 1 ≤ occurrences request (requests past)
      by_count zero none = none_is_some a (sym (unasked_flight setting request number past lawful none) ∙ flies)
      by_count (suc n) some = omega (arith, some)
