-- Calls of a desk, one behind the other, with the entries that came between.
use Rattle.event_runner.proofs.Base.{◌≡◌, ◌≢◌, ◌∙◌, ℕ, ◌==◌, true, List, [], ◌∷◌, ◌++◌, Some, refl, ap, ap₂, sym, subst, append-nil, append_assoc, and_from, list_all-append, AllByRecursion, list_all, Entry, What, calls_stretch, names_stay_behind, names_stay_refl, names_stay_trans, own-append, own-others, own_added, own_entries, Calls, GoesOn, IsSameDesk, Known, IsLawful, Meaning, NamesStay, is_of_turn, entries_of, AreMadeInTurns, is_made_in_turn}

-- a desk went on by these entries
pub record Trail (old new : Known) (entries : List Entry) : Type 0 where
  pub desk : IsSameDesk old new
  pub seen : new.seen ≡ old.seen ++ entries
  pub lawful : IsLawful old.setting old.seen → IsLawful new.setting new.seen
  pub own : new.own ≡ old.own ++ own_entries old.seat entries
  pub names : NamesStay entries old.names new.names

-- so it goes on
abbrev pub goes_of : (old new : Known) (entries : List Entry) → Trail old new entries → GoesOn old new
goes_of old new entries t = record { desk = t.desk; since = entries; seen = t.seen; lawful = t.lawful; own = t.own; names = t.names }

-- and what goes on went on by some entries
pub trail_of : (old new : Known) (goes : GoesOn old new) → Trail old new goes.since
trail_of old new goes = record { desk = goes.desk; seen = goes.seen; lawful = goes.lawful; own = goes.own; names = goes.names }

-- nothing was done
pub trail_none : (known : Known) → Trail known known []
trail_none known = record {
  desk = record { setting = refl; home = refl; seat = refl; voice = refl };
  seen = sym (append-nil known.seen);
  lawful = λ was. was;
  own = sym (append-nil known.own);
  names = names_stay_refl known.names;
}

-- one call
pub trail_call : (meaning : Meaning) (by : ℕ) (old new : Known) (call : Calls meaning by old new) → Trail old new (call.stands.others ++ entries_of old.seat by call.added)
trail_call meaning by old new call = record {
  desk = call.desk;
  seen = (calls_stretch meaning by old new call).0;
  lawful = λ _. call.lawful;
  own = (calls_stretch meaning by old new call).1;
  names = names_stay_behind old.seat by call.added call.stands.others old.names new.names call.names;
}

-- one behind the other
pub trail_trans : (a b c : Known) (es fs : List Entry) → Trail a b es → Trail b c fs → Trail a c (es ++ fs)
trail_trans a b c es fs x y = record {
  desk = record {
    setting = y.desk.setting ∙ x.desk.setting;
    home = y.desk.home ∙ x.desk.home;
    seat = y.desk.seat ∙ x.desk.seat;
    voice = y.desk.voice ∙ x.desk.voice;
  };
  seen = y.seen ∙ ap (λ l. l ++ fs) x.seen ∙ append_assoc a.seen es fs;
  lawful = λ was. y.lawful (x.lawful was);
  own = y.own ∙ ap₂ (λ l seat. l ++ own_entries seat fs) x.own x.desk.seat
      ∙ append_assoc a.own (own_entries a.seat es) (own_entries a.seat fs)
      ∙ ap (λ l. a.own ++ l) (sym (own-append a.seat es fs));
  names = names_stay_trans es fs a.names b.names c.names x.names y.names;
}

-- entries that were made in turns, and others
pub made_trans : (a b : Known) (es fs : List Entry) → b.seat ≡ a.seat → AreMadeInTurns a.seat es → AreMadeInTurns b.seat fs → AreMadeInTurns a.seat (es ++ fs)
made_trans a b es fs seat x y =
    ap (list_all is_made_in_turn) (own-append a.seat es fs) ∙ list_all-append is_made_in_turn (own_entries a.seat es) (own_entries a.seat fs)
    ∙ and_from _ _ x (subst (λ s. AreMadeInTurns s fs) seat y)

-- those of other seats
pub made_others : (seat : ℕ) (os : List Entry) → AllByRecursion (λ entry. entry.seat ≢ seat) os → AreMadeInTurns seat os
made_others seat os others = ap (list_all is_made_in_turn) (own-others seat os others)

-- and one of the seat's behind them
pub made_one : (seat : ℕ) (os : List Entry) (what : What) → AllByRecursion (λ entry. entry.seat ≢ seat) os → is_of_turn (record { seat = seat; by = 0; what = what }) ≡ true →
    AreMadeInTurns seat (os ++ record { seat = seat; by = 0; what = what } ∷ [])
made_one seat os what others of_turn =
    let entry : Entry = record { seat = seat; by = 0; what = what } in
    ap (list_all is_made_in_turn) (own-append seat os (entry ∷ []) ∙ ap₂ (λ l m. l ++ m) (own-others seat os others) (own_added seat 0 (Some what)))
    ∙ and_from (is_made_in_turn entry) true (and_from (is_of_turn entry) (entry.by == 0) of_turn refl) refl
