-- How the names of tokens go on from entry to entry.
use Rattle.std.proofs.Common.{◌≡◌, ◌∙◌, ℕ, ◌==◌, ◌||◌, Bool, true, false, cond, List, [], ◌∷◌, ◌++◌, Option, Some, None, Ok, Err, Result, refl, ap, sym, arith}
use Rattle.std.proofs.lemmas.Bool.Decides.{nat_tests}
use Rattle.std.proofs.lemmas.List.Folds.{list_any-append}
use Rattle.std.specs.Cmp.{nat_cmp_total}
use Rattle.std.specs.FinMap as finite
use Rattle.std.specs.Ordering.{eq_by_cmp, nat_cmp}
use Rattle.std.specs.Option.{unwrap_or}
use Rattle.std.specs.Prelude.{IsFalse}
use Rattle.chan_types.specs.declared.journal.Entry.{Entry}
use Rattle.chan_types.specs.declared.journal.What.{What}
use Rattle.chan_types.specs.declared.journal.What.TheVariants.{Accept, Arrive, Cancel, Destroy, Expire, Fault, Servers, Start, Take}
use Rattle.chan_types.specs.declared.ticket.Ticket.{Ticket}
use Rattle.channel_model.specs.Names.{BecomeBy, GivesName, KeepsName, Names, NamesBecome, NamesStay, is_moved, moves}
use Rattle.channel_model.specs.Seen.{entries_of}

same_number : (x y : ℕ) → eq_by_cmp nat_cmp x y ≡ (y == x)
same_number x y = grind (arith, nat_tests)

-- a name that is put or removed at another number leaves this one's
pub name_kept_by_insert : (names : Names) (key name number : ℕ) → IsFalse (key == number) → finite.get (finite.insert names key name) number ≡ finite.get names number
name_kept_by_insert names key name number other =
    finite.get-insert nat_cmp_total names key name number ∙ ap (λ b. cond b (Some name) (finite.get names number)) (same_number number key ∙ other)

pub name_kept_by_remove : (names : Names) (key number : ℕ) → IsFalse (key == number) → finite.get (finite.remove names key) number ≡ finite.get names number
name_kept_by_remove names key number other =
    finite.get-remove nat_cmp_total names key number ∙ ap (λ b. cond b None (finite.get names number)) (same_number number key ∙ other)

-- a name that was put is there
pub name_put : (names : Names) (key name : ℕ) → finite.get (finite.insert names key name) key ≡ Some name
name_put names key name =
    finite.get-insert nat_cmp_total names key name key ∙ ap (λ b. cond b (Some name) (finite.get names key)) (same_number key key ∙ itself key)
  where
    itself : (n : ℕ) → (n == n) ≡ true
    itself n = grind (arith, nat_tests)

-- what an entry doesn't move stays
stays_by : (number : ℕ) (what : What) (old new : Names) → BecomeBy (Some what) old new → IsFalse (moves number what) → finite.get new number ≡ finite.get old number
stays_by number (Accept n spec script) old new become other = ap (λ m. finite.get m number) become.1 ∙ name_kept_by_insert old n become.0 number other
stays_by number Cancel old new become other = ap (λ m. finite.get m number) become
stays_by number Destroy old new become other = ap (λ m. finite.get m number) become
stays_by number (Take n) old new become other = ap (λ m. finite.get m number) become ∙ name_kept_by_remove old n number other
stays_by number (Start n leg server link id mix moment) old new become other = ap (λ m. finite.get m number) become
stays_by number (Arrive server link bytes) old new become other = ap (λ m. finite.get m number) become
stays_by number (Expire n leg moment) old new become other = ap (λ m. finite.get m number) become
stays_by number (Fault server link moment) old new become other = ap (λ m. finite.get m number) become
stays_by number (Servers list) old new become other = ap (λ m. finite.get m number) become

-- one of two stretches moves it where both do
none_before : (number : ℕ) (entries more : List Entry) → IsFalse (is_moved number (entries ++ more)) → IsFalse (is_moved number entries)
none_before number entries more none = first (is_moved number entries) (is_moved number more) (sym (list_any-append (λ entry. moves number entry.what) entries more) ∙ none)
  where
    first : (a b : Bool) → (a || b) ≡ false → a ≡ false
    first true b e = e
    first false b e = refl

none_behind : (number : ℕ) (entries more : List Entry) → IsFalse (is_moved number (entries ++ more)) → IsFalse (is_moved number more)
none_behind number entries more none = second (is_moved number entries) (is_moved number more) (sym (list_any-append (λ entry. moves number entry.what) entries more) ∙ none)
  where
    second : (a b : Bool) → (a || b) ≡ false → b ≡ false
    second true b e = absurd (cc e)
    second false b e = e

-- what a call adds, behind entries of others
pub names_stay_behind : (seat by : ℕ) (added : Option What) (others : List Entry) (old new : Option Names) → NamesBecome added old new → NamesStay (others ++ entries_of seat by added) old new
names_stay_behind seat by added others None new become = become
names_stay_behind seat by added others (Some old) new become =
    (become.0, become.1, λ number none. by_added added become.2 number (none_behind number others (entries_of seat by added) none))
  where
    alone : (b : Bool) → (b || false) ≡ false → b ≡ false
    alone true e = e
    alone false e = refl

    by_added : (added : Option What) → BecomeBy added old become.0 → (number : ℕ) → IsFalse (is_moved number (entries_of seat by added)) → finite.get become.0 number ≡ finite.get old number
    by_added None same number none = ap (λ m. finite.get m number) same
    by_added (Some what) same number none = stays_by number what old become.0 same (alone (moves number what) none)

-- a desk that knows no names says nothing of them
pub unknown_keeps : {R : Type 0} (name : ℕ) (result : Result ℕ R) → KeepsName name result None
unknown_keeps name (Ok number) = tt
unknown_keeps name (Err refused) = tt

pub unknown_gives : {T : Type 0} (name : T → ℕ) (result : Option (Ticket T)) → GivesName name result None
unknown_gives name None = tt
unknown_gives name (Some ticket) = tt

-- nothing is done
pub names_stay_refl : (names : Option Names) → NamesStay [] names names
names_stay_refl None = refl
names_stay_refl (Some names) = (names, refl, λ number none. refl)

-- one stretch behind another
pub names_stay_trans : (es fs : List Entry) (old middle new : Option Names) → NamesStay es old middle → NamesStay fs middle new → NamesStay (es ++ fs) old new
names_stay_trans es fs None middle new before behind = none_then middle before behind
  where
    none_then : (middle : Option Names) → middle ≡ None → NamesStay fs middle new → new ≡ None
    none_then None is behind = behind
    none_then (Some names) is behind = absurd (cc is)
names_stay_trans es fs (Some old) middle new before behind = some_then middle before.1 behind
  where
    some_then : (middle : Option Names) → middle ≡ Some before.0 → NamesStay fs middle new → NamesStay (es ++ fs) (Some old) new
    some_then None is behind = absurd (cc is)
    some_then (Some names) is behind = (
      behind.0,
      behind.1,
      λ number none.
          behind.2 number (none_behind number es fs none) ∙ ap (λ (o : Option Names). finite.get (unwrap_or o names) number) is ∙ before.2 number (none_before number es fs none),
    )
