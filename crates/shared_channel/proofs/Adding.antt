-- An operation adds one entry of its seat at most, or none.
use Rattle.std.proofs.Common.{◌≡◌, ◌∙◌, ℕ, ◌++◌, Bool, Option, Some, None, refl, ap, sym}
use Rattle.chan_types.specs.declared.journal.Entry.{Entry}
use Rattle.chan_types.specs.declared.journal.What.{What}
use Rattle.channel_model.specs.Meanings.{Meaning, TellsBusy, TellsCounts, TellsDue}
use Rattle.channel_model.specs.Seen.{Happens, Seen, entries_of}
use Rattle.channel_model.specs.declared.answers.Counts.{Counts}
use Rattle.channel_table.specs.Tokens.{Shown}
use Rattle.seat_lock.specs.History.{AddsAtMostOne}

-- what a call adds is one entry of its seat at most
pub does_adds : (meaning : Meaning) (seat by : ℕ) (old new : Seen) → Happens meaning seat by old new → AddsAtMostOne (λ (e : Entry). e.seat) seat old.journal new.journal
does_adds meaning seat by old new happens = by_added happens.added happens.journal
  where
    by_added : (added : Option What) → new.journal ≡ old.journal ++ entries_of seat by added → AddsAtMostOne (λ (e : Entry). e.seat) seat old.journal new.journal
    by_added None is = (None, is, tt)
    by_added (Some what) is = (Some (record { seat = seat; by = by; what = what }), is, refl)

-- the same of a table, where the state before is another's
pub adds_from : {T : Type 0} (seat by : ℕ) (was old new : Shown T) (added : Option What) → old ≡ was → new.journal ≡ old.journal ++ entries_of seat by added → AddsAtMostOne (λ (e : Entry). e.seat) seat was.journal new.journal
adds_from {T} seat by was old new added same is = by_added added (is ∙ ap (λ (s : Shown T). s.journal ++ entries_of seat by added) same)
  where
    by_added : (added : Option What) → new.journal ≡ was.journal ++ entries_of seat by added → AddsAtMostOne (λ (e : Entry). e.seat) seat was.journal new.journal
    by_added None is = (None, is, tt)
    by_added (Some what) is = (Some (record { seat = seat; by = by; what = what }), is, refl)

-- a call that adds nothing is one of any seat
looks : (meaning : Meaning) (seat : ℕ) (old new : Seen) (happens : Happens meaning 0 0 old new) → happens.added ≡ None → Happens meaning seat 0 old new
looks meaning seat old new happens none = record {
  added = happens.added;
  meant = happens.meant;
  setting = happens.setting;
  journal = happens.journal ∙ ap (λ a. old.journal ++ entries_of 0 0 a) none ∙ ap (λ a. old.journal ++ entries_of seat 0 a) (sym none);
  lawful = happens.lawful;
}

pub due_looks : (due : Option ℕ) (seat : ℕ) (old new : Seen) → Happens (TellsDue due) 0 0 old new → Happens (TellsDue due) seat 0 old new
due_looks due seat old new h = looks (TellsDue due) seat old new h h.meant.nothing

pub counts_look : (counts : Counts) (seat : ℕ) (old new : Seen) → Happens (TellsCounts counts) 0 0 old new → Happens (TellsCounts counts) seat 0 old new
counts_look counts seat old new h = looks (TellsCounts counts) seat old new h h.meant.nothing

pub busy_looks : (server link : ℕ) (busy : Bool) (seat : ℕ) (old new : Seen) → Happens (TellsBusy server link busy) 0 0 old new → Happens (TellsBusy server link busy) seat 0 old new
busy_looks server link busy seat old new h = looks (TellsBusy server link busy) seat old new h h.meant.nothing
