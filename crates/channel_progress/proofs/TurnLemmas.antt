-- A turn of a channel with one seat: in it the attempts left fall, or behind it no attempt can start and what was ready still is.
use Rattle.std.proofs.Common.{◌≡◌, ◌∙◌, ℕ, ◌+◌, ◌≤◌, List, [], ◌∷◌, ap, sym, subst, arith, length, inl, inr, ◌⊎◌, ⊎_elim}
use Rattle.std.specs.Prelude.{filter_map}
use Rattle.chan_types.specs.declared.journal.Entry.{Entry}
use Rattle.net_world.specs.declared.log.WorldCall.{WorldCall}
use Rattle.channel_model.proofs.Theorems.{all_used_many, parts_agree}
use Rattle.channel_model.specs.Completion.{ready, waiting}
use Rattle.channel_model.specs.Flight.{begun_by, in_flight}
use Rattle.channel_model.specs.Journal.{Past, followed_by}
use Rattle.channel_model.specs.Setting.{Setting}
use Rattle.channel_model.specs.Stretch.{Standing}
use Rattle.channel_model.specs.Turn.{HaveMade, IsTurn, NoneDue, NoneStarts, closing, expired_in, expiring, most_entries, received_in, receiving, started_in, starting, writing}
use Rattle.channel_progress.proofs.EntryLemmas.{entries_keep}
use Rattle.channel_progress.proofs.FallLemmas.{Falls, Keeps, falls_then, then_falls}
use Rattle.channel_progress.proofs.FitLemmas.{IsFit, fit_before}
use Rattle.channel_progress.proofs.PartLemmas.{closes_alone, expires, receives, starts, writes}
use Rattle.channel_progress.proofs.OfPartLemmas.{AreOfSeat, are_of_part, begun_in-followed, of_seat-append, own_all, received_in-append, receives_nothing}
use Rattle.channel_progress.proofs.ViewLemmas.{BeginsAll, SameView, begun_in}

module _ (setting : Setting) where
  -- no attempt can start: no leg waits, or as many are in flight as there are identifiers
  abbrev pub IsCalm : Past → Type 0
  IsCalm past = (waiting setting past ≡ []) ⊎ (most_entries ≤ length (in_flight setting past))

  -- what was ready is so, and no attempt can start
  pub record Settles (old new : Past) : Type 0 where
    pub ready_same : ready setting new ≡ ready setting old
    pub calm : IsCalm new

  -- and none is due
  pub record Rests (reading : ℕ) (old new : Past) : Type 0 where
    pub settles : Settles old new
    pub none_due : NoneDue setting reading old

  -- and none was, where nothing was received
  pub record IsQuiet (reading : ℕ) (calls : List WorldCall) (old new : Past) : Type 0 where
    pub settles : Settles old new
    pub none_due : received_in calls ≡ 0 → NoneDue setting reading old

  -- where all is the same, no attempt can start as before
  same_calm : (old new : Past) → SameView setting old new → IsCalm old → IsCalm new
  same_calm old new same (inl none) = inl (same.waiting_same ∙ none)
  same_calm old new same (inr many) = let is : length (in_flight setting new) ≡ length (in_flight setting old) = ap length same.in_flight_same in inr (omega (arith, is, many))

  -- two stretches, one behind the other
  settles_behind : (old middle new : Past) → ready setting middle ≡ ready setting old → Settles middle new → Settles old new
  settles_behind old middle new same settles = record { ready_same = settles.ready_same ∙ same; calm = settles.calm }

module _ (setting : Setting) (end : Past) (seat reading : ℕ) where
  -- the last part makes no entry
  closing_says : (old new : Standing) (entries : List Entry) (calls : List WorldCall) → HaveMade setting seat reading (closing ∷ []) old entries calls new → AreOfSeat seat entries → new.past ≡ old.past
  closing_says old new entries calls j own =
      let parts = of_seat-append seat j.entries_first j.entries_then (subst (AreOfSeat seat) j.entries_are own) in
      let none : j.entries_first ≡ [] = closes_alone j.entries_first (are_of_part closing seat reading j.entries_first j.calls_first parts.0 j.one.alone) in
      ap (λ (s : Standing). s.past) j.two.same ∙ j.one.agrees.past_is ∙ ap (followed_by old.past) none

  -- the last two parts: the attempts left fall, or all is the same
  writing_says : (old new : Standing) (entries : List Entry) (calls : List WorldCall) → HaveMade setting seat reading (writing ∷ closing ∷ []) old entries calls new → AreOfSeat seat entries → IsFit setting end new.past
      → Falls setting end old.past new.past ⊎ SameView setting old.past new.past
  writing_says old new entries calls j own fit =
      let parts = of_seat-append seat j.entries_first j.entries_then (subst (AreOfSeat seat) j.entries_are own) in
      let here : new.past ≡ followed_by old.past j.entries_first = closing_says j.middle new j.entries_then j.calls_then j.two parts.1 ∙ j.one.agrees.past_is in
      subst (λ p. Falls setting end old.past p ⊎ SameView setting old.past p) (sym here)
      (writes setting end old.past j.entries_first (are_of_part writing seat reading j.entries_first j.calls_first parts.0 j.one.alone) (subst (IsFit setting end) here fit))

  -- the last three: or no attempt can start behind them
  starting_says : (old new : Standing) (entries : List Entry) (calls : List WorldCall) → HaveMade setting seat reading (starting ∷ writing ∷ closing ∷ []) old entries calls new → AreOfSeat seat entries → IsFit setting end new.past
      → Falls setting end old.past new.past ⊎ Settles setting old.past new.past
  starting_says old new entries calls j own fit =
      let parts = of_seat-append seat j.entries_first j.entries_then (subst (AreOfSeat seat) j.entries_are own) in
      let first : j.middle.past ≡ followed_by old.past j.entries_first = j.one.agrees.past_is in
      let last : new.past ≡ followed_by j.middle.past j.entries_then = (parts_agree setting seat reading (writing ∷ closing ∷ []) j.middle j.entries_then j.calls_then new j.two).past_is in
      let fit_last : IsFit setting end (followed_by j.middle.past j.entries_then) = subst (IsFit setting end) last fit in
      let fit_first : IsFit setting end (followed_by old.past j.entries_first) = subst (IsFit setting end) first (fit_before setting end j.middle.past j.entries_then fit_last) in
      let keeps_first : Keeps setting end old.past j.middle.past = subst (Keeps setting end old.past) (sym first) (entries_keep setting end old.past j.entries_first fit_first) in
      let keeps_last : Keeps setting end j.middle.past new.past = subst (Keeps setting end j.middle.past) (sym last) (entries_keep setting end j.middle.past j.entries_then fit_last) in
      let begun : begun_in j.middle.past ≡ begun_in old.past + length (filter_map (λ (e : Entry). begun_by e.what) j.entries_first) = ap begun_in first ∙ begun_in-followed old.past j.entries_first in
      let all_own : started_in seat j.entries_first ≡ length (filter_map (λ (e : Entry). begun_by e.what) j.entries_first) = ap (λ l. length (filter_map (λ (e : Entry). begun_by e.what) l)) (own_all seat j.entries_first parts.0) in
      ⊎_elim
      (λ (falls : Falls setting end old.past j.middle.past). inl (falls_then setting end old.past j.middle.past new.past falls keeps_last))
      (λ (begins : BeginsAll setting old.past j.middle.past). ⊎_elim
      (λ falls. inl (then_falls setting end old.past j.middle.past new.past keeps_first falls))
      (λ (same : SameView setting j.middle.past new.past). inr (settles_behind setting old.past j.middle.past new.past begins.ready_same (record { ready_same = same.ready_same; calm = same_calm setting j.middle.past new.past same (calm j.middle begins begun all_own j.one.all) })))
      (writing_says j.middle new j.entries_then j.calls_then j.two parts.1 fit))
      (subst (λ p. Falls setting end old.past p ⊎ BeginsAll setting old.past p) (sym first)
      (starts setting end old.past j.entries_first (are_of_part starting seat reading j.entries_first j.calls_first parts.0 j.one.alone) fit_first))
    where
      none_calm : (past : Past) → NoneStarts setting past → IsCalm setting past
      none_calm past (inl none) = inl none
      none_calm past (inr used) = inr (all_used_many setting past used)

      calm : (middle : Standing) → BeginsAll setting old.past middle.past → {n : ℕ} → begun_in middle.past ≡ begun_in old.past + n → {m : ℕ} → m ≡ n → {Drawn DrawnAll : Type 0} →
          (NoneStarts setting middle.past × Drawn) ⊎ ((m ≡ most_entries) × DrawnAll) → IsCalm setting middle.past
      calm middle begins begun all_own (inl end) = none_calm middle.past end.0
      calm middle begins begun all_own (inr end) = inr (omega (arith, begins.flies, begun, all_own, end.0))

  -- the last four: or nothing was due either
  expiring_says : (old new : Standing) (entries : List Entry) (calls : List WorldCall) → HaveMade setting seat reading (expiring ∷ starting ∷ writing ∷ closing ∷ []) old entries calls new → AreOfSeat seat entries → IsFit setting end new.past
      → Falls setting end old.past new.past ⊎ Rests setting reading old.past new.past
  expiring_says old new entries calls j own fit =
      let parts = of_seat-append seat j.entries_first j.entries_then (subst (AreOfSeat seat) j.entries_are own) in
      let first : j.middle.past ≡ followed_by old.past j.entries_first = j.one.agrees.past_is in
      let last : new.past ≡ followed_by j.middle.past j.entries_then = (parts_agree setting seat reading (starting ∷ writing ∷ closing ∷ []) j.middle j.entries_then j.calls_then new j.two).past_is in
      let fit_last : IsFit setting end (followed_by j.middle.past j.entries_then) = subst (IsFit setting end) last fit in
      let fit_first : IsFit setting end (followed_by old.past j.entries_first) = subst (IsFit setting end) first (fit_before setting end j.middle.past j.entries_then fit_last) in
      let keeps_last : Keeps setting end j.middle.past new.past = subst (Keeps setting end j.middle.past) (sym last) (entries_keep setting end j.middle.past j.entries_then fit_last) in
      ⊎_elim
      (λ falls. inl (falls_then setting end old.past j.middle.past new.past (subst (Falls setting end old.past) (sym first) falls) keeps_last))
      (λ (none : j.entries_first ≡ []). let same : j.middle.past ≡ old.past = first ∙ ap (followed_by old.past) none in
      subst (λ p. Falls setting end p new.past ⊎ Rests setting reading p new.past) same
      (⊎_elim
      (λ falls. inl falls)
      (λ (settles : Settles setting j.middle.past new.past). inr (record { settles = settles; none_due = none_due j.middle j.entries_first none j.one.all }))
      (starting_says j.middle new j.entries_then j.calls_then j.two parts.1 fit)))
      (expires setting end old.past j.entries_first (are_of_part expiring seat reading j.entries_first j.calls_first parts.0 j.one.alone) fit_first)
    where
      none_due : (middle : Standing) (expired : List Entry) → expired ≡ [] → NoneDue setting reading middle.past ⊎ (expired_in seat expired ≡ most_entries) → NoneDue setting reading middle.past
      none_due middle expired none (inl due) = due
      none_due middle expired none (inr many) = let is : expired_in seat expired ≡ 0 = ap (expired_in seat) none in absurd (omega (arith, is, many))

  -- a whole turn
  pub turn_says : (old new : Standing) (entries : List Entry) (calls : List WorldCall) → IsTurn setting seat reading old entries calls new → AreOfSeat seat entries → IsFit setting end new.past
      → Falls setting end old.past new.past ⊎ IsQuiet setting reading calls old.past new.past
  turn_says old new entries calls turn own fit =
      let j = turn.parts in
      let parts = of_seat-append seat j.entries_first j.entries_then (subst (AreOfSeat seat) j.entries_are own) in
      let first : j.middle.past ≡ followed_by old.past j.entries_first = j.one.agrees.past_is in
      let last : new.past ≡ followed_by j.middle.past j.entries_then = (parts_agree setting seat reading (expiring ∷ starting ∷ writing ∷ closing ∷ []) j.middle j.entries_then j.calls_then new j.two).past_is in
      let fit_last : IsFit setting end (followed_by j.middle.past j.entries_then) = subst (IsFit setting end) last fit in
      let fit_first : IsFit setting end (followed_by old.past j.entries_first) = subst (IsFit setting end) first (fit_before setting end j.middle.past j.entries_then fit_last) in
      let keeps_first : Keeps setting end old.past j.middle.past = subst (Keeps setting end old.past) (sym first) (entries_keep setting end old.past j.entries_first fit_first) in
      let keeps_last : Keeps setting end j.middle.past new.past = subst (Keeps setting end j.middle.past) (sym last) (entries_keep setting end j.middle.past j.entries_then fit_last) in
      let split : received_in calls ≡ received_in j.calls_first + received_in j.calls_then = ap received_in turn.calls_are ∙ ap received_in j.calls_are ∙ received_in-append j.calls_first j.calls_then in
      ⊎_elim
      (λ falls. inl (falls_then setting end old.past j.middle.past new.past (subst (Falls setting end old.past) (sym first) falls) keeps_last))
      (λ (same : ready setting (followed_by old.past j.entries_first) ≡ ready setting old.past). ⊎_elim
      (λ falls. inl (then_falls setting end old.past j.middle.past new.past keeps_first falls))
      (λ (rests : Rests setting reading j.middle.past new.past). inr (record {
        settles = settles_behind setting old.past j.middle.past new.past (ap (ready setting) first ∙ same) rests.settles;
        none_due = λ nothing.
            let none : j.entries_first ≡ [] = receives_nothing seat reading old.past old.held j.entries_first j.calls_first parts.0 j.one.alone j.one.agrees.arrivals j.one.agrees.faults_are (omega (arith, split, nothing)) in
            subst (NoneDue setting reading) (first ∙ ap (followed_by old.past) none) rests.none_due;
      }))
      (expiring_says j.middle new j.entries_then j.calls_then j.two parts.1 fit))
      (receives setting end old.past j.entries_first (are_of_part receiving seat reading j.entries_first j.calls_first parts.0 j.one.alone) fit_first)
