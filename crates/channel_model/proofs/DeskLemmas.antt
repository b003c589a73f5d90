-- What several calls of a desk do, one after the other.
use Rattle.std.proofs.Common.{ne_eqb, ◌∙◌, sym, eq-eqb, ap, ap₂}
use Rattle.std.proofs.lemmas.List.Elements.{filter-append}
use Rattle.std.specs.List.{AllByRecursion}
use Rattle.std.specs.Prelude.{ℕ, List, ◌≢◌, ◌≡◌, [], refl, ◌∷◌, ◌++◌, ◌==◌, Option, Some, None}
use mathlib.Core.List.{append-nil, append_assoc}
use Rattle.chan_types.specs.declared.journal.Entry.{Entry}
use Rattle.chan_types.specs.declared.journal.What.{What}
use Rattle.channel_model.specs.Journal.{own_entries}
use Rattle.channel_model.specs.Known.{Calls, GoesOn, IsSameDesk, Known, StandsAt}
use Rattle.channel_model.specs.Lawful.{IsLawful}
use Rattle.channel_model.specs.Meanings.{Meaning}
use Rattle.channel_model.specs.Names.{NamesBecome}
use Rattle.channel_model.proofs.NameLemmas.{names_stay_behind, names_stay_refl, names_stay_trans}
use Rattle.channel_model.specs.Seen.{entries_of}

-- the entries of others aren't the desk's own
pub own-others : (seat : ℕ) (others : List Entry) → AllByRecursion (λ entry. entry.seat ≢ seat) others → own_entries seat others ≡ []
own-others seat [] each = refl
own-others seat (entry ∷ others) each = rw (ne_eqb entry.seat seat each.0) (own-others seat others each.1)

-- the seat's own of two stretches of entries
pub own-append : (seat : ℕ) (entries more : List Entry) → own_entries seat (entries ++ more) ≡ own_entries seat entries ++ own_entries seat more
own-append seat entries more = filter-append (λ (entry : Entry). entry.seat == seat) entries more

-- what a call adds for a seat is its own
pub own_added : (seat by : ℕ) (added : Option What) → own_entries seat (entries_of seat by added) ≡ entries_of seat by added
own_added seat by None = refl
own_added seat by (Some what) = rw (eq-eqb seat seat refl) refl

-- a desk goes on by doing nothing
pub goes_on_refl : (known : Known) → GoesOn known known
goes_on_refl known = record {
  desk = record { setting = refl; home = refl; seat = refl; voice = refl };
  since = [];
  seen = sym (append-nil known.seen);
  lawful = λ was. was;
  own = sym (append-nil known.own);
  names = names_stay_refl known.names;
}

-- and by adding at a later position what a call adds, whatever it means
pub adds_goes_on : (by : ℕ) (old new : Known) (here : List Entry) (added : Option What) → IsSameDesk old new → StandsAt old here
    → new.seen ≡ here ++ entries_of old.seat by added → new.own ≡ old.own ++ entries_of old.seat by added → NamesBecome added old.names new.names → IsLawful new.setting new.seen → GoesOn old new
adds_goes_on by old new here added desk stands seen own names lawful =
    let more : List Entry = entries_of old.seat by added in
    let mine : own_entries old.seat (stands.others ++ more) ≡ more =
    own-append old.seat stands.others more ∙ ap₂ (λ xs ys. xs ++ ys) (own-others old.seat stands.others stands.by_others) (own_added old.seat by added) in
    record {
      desk = desk;
      since = stands.others ++ more;
      seen = seen ∙ ap (λ h. h ++ more) stands.parts ∙ append_assoc old.seen stands.others more;
      lawful = λ _. lawful;
      own = own ∙ sym (ap (λ es. old.own ++ es) mine);
      names = names_stay_behind old.seat by added stands.others old.names new.names names;
    }

-- so each call lets its desk go on
pub call_goes_on : (meaning : Meaning) (by : ℕ) (old new : Known) → Calls meaning by old new → GoesOn old new
call_goes_on meaning by old new call = adds_goes_on by old new call.here call.added call.desk call.stands call.seen call.own call.names call.lawful

-- behind one call, what is seen has gone on by entries of others, and then by what the call added
pub calls_stretch : (meaning : Meaning) (by : ℕ) (old new : Known) (calls : Calls meaning by old new) →
    (new.seen ≡ old.seen ++ (calls.stands.others ++ entries_of old.seat by calls.added))
    × (new.own ≡ old.own ++ own_entries old.seat (calls.stands.others ++ entries_of old.seat by calls.added))
unfolding call_goes_on adds_goes_on
calls_stretch meaning by old new calls = let goes = call_goes_on meaning by old new calls in (goes.seen, goes.own)

-- and then by going on
pub goes_on_trans : (old middle new : Known) → GoesOn old middle → GoesOn middle new → GoesOn old new
goes_on_trans old middle new before behind = record {
  desk = record {
    setting = behind.desk.setting ∙ before.desk.setting;
    home = behind.desk.home ∙ before.desk.home;
    seat = behind.desk.seat ∙ before.desk.seat;
    voice = behind.desk.voice ∙ before.desk.voice;
  };
  since = before.since ++ behind.since;
  lawful = λ was. behind.lawful (before.lawful was);
  seen = behind.seen ∙ ap (λ es. es ++ behind.since) before.seen ∙ append_assoc old.seen before.since behind.since;
  own = behind.own ∙ ap₂ (λ es seat. es ++ own_entries seat behind.since) before.own before.desk.seat
      ∙ append_assoc old.own (own_entries old.seat before.since) (own_entries old.seat behind.since)
      ∙ ap (λ es. old.own ++ es) (sym (own-append old.seat before.since behind.since));
  names = names_stay_trans before.since behind.since old.names middle.names new.names before.names behind.names;
}

-- the entries that a desk made stay those of its seat
pub own_stays : (old new : Known) → GoesOn old new → old.own ≡ own_entries old.seat old.seen → new.own ≡ own_entries new.seat new.seen
own_stays old new goes own =
    goes.own ∙ ap (λ es. es ++ own_entries old.seat goes.since) own ∙ sym (own-append old.seat old.seen goes.since)
    ∙ ap₂ own_entries (sym goes.desk.seat) (sym goes.seen)
