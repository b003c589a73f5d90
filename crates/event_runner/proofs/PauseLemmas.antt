-- A pause: what it saw of the channel, and its wait.
use Rattle.event_runner.proofs.Base.{◌≡◌, ◌∙◌, ℕ, ◌==◌, ◌&&◌, ◌||◌, Bool, true, false, List, ◌++◌, Result, Ok, Err, Option, Some, None, refl, ap, sym, subst, is_err, min, nat_lt, not, option_map, option_map_or, append-nil, NoMemory, Waited, WorldCall, Wait, call_goes_on, goes_on_refl, goes_on_trans, skips, past_of, Calls, Known, Due, first_due, Meaning, TellsCounts, TellsDue, Names, NamesBecome, entries_of, most_entries, Paused, HasLooked, HasSkipped, HasWaited, Pauses, wakes_by, Gets}
use Rattle.channel_model.specs.declared.answers.Counts.{Counts}

-- what a call saw, where it adds nothing
seen_is : (meaning : Meaning) (old new : Known) (call : Calls meaning 0 old new) → call.added ≡ None → new.seen ≡ call.here
seen_is meaning old new call none = call.seen ∙ ap (λ o. call.here ++ entries_of old.seat 0 o) none ∙ append-nil call.here

-- nothing was done
pub looked_none : (known : Known) → HasLooked known known
looked_none known = record { goes_on = goes_on_refl known; own = refl; names = refl }

-- all tokens stay where nothing is added
pub names_same : (old new : Option Names) → NamesBecome None old new → new ≡ old
names_same None new become = become
names_same (Some names) new become = become.1 ∙ ap (λ (m : Names). Some m) become.2

-- a call that adds nothing is a look
pub look_of : (meaning : Meaning) (old new : Known) (call : Calls meaning 0 old new) → call.added ≡ None → HasLooked old new
look_of meaning old new call none = record {
  goes_on = call_goes_on meaning 0 old new call;
  own = call.own ∙ ap (λ o. old.own ++ entries_of old.seat 0 o) none ∙ append-nil old.own;
  names = names_same old.names new.names (subst (λ o. NamesBecome o old.names new.names) none call.names);
}

-- what the counts say of a pause
abbrev pub by_counts : Counts → Bool
by_counts counts = (counts.pending == 0) || not (counts.ready == 0) || (not (counts.waiting == 0) && nat_lt counts.flying most_entries)

module _ (old new : Known) (counts : Counts) (call : Calls (TellsCounts counts) 0 old new) where
  looked : skips old.setting (past_of new.seen) ≡ by_counts counts
  looked = ap (λ s. skips old.setting (past_of s)) (seen_is (TellsCounts counts) old new call call.meant.nothing)
      ∙ rw (call.meant.requests_pending, call.meant.requests_ready, call.meant.legs_waiting, call.meant.legs_flying) refl

  pub skipped : (log : Option (List WorldCall)) → by_counts counts ≡ true → HasSkipped old new log log
  skipped log says = record { looked = look_of (TellsCounts counts) old new call call.meant.nothing; skipped = looked ∙ says; no_call = refl }

module _ (old middle new : Known) (counts : Counts) (first : Calls (TellsCounts counts) 0 old middle) (due : Option ℕ) (then_ : Calls (TellsDue due) 0 middle new) where
  moments : (latest : ℕ) (o : Option Due) → option_map_or (λ moment. min moment latest) (option_map (λ d. d.at) o) latest ≡ option_map_or (λ d. min d.at latest) o latest
  moments latest None = refl
  moments latest (Some d) = refl

  pub waited : (latest until : ℕ) (answer : Waited) (l m : Option (List WorldCall)) → by_counts counts ≡ false → until ≡ option_map_or (λ moment. min moment latest) due latest → Gets (Wait until answer) l m → HasWaited latest answer old new l m
  waited latest until answer l m says is got =
      let wakes : until ≡ wakes_by old.setting latest (past_of new.seen) =
      is ∙ ap (λ d. option_map_or (λ moment. min moment latest) d latest) then_.meant.answer ∙ moments latest (first_due middle.setting (past_of then_.here))
      ∙ ap (λ s. wakes_by middle.setting latest (past_of s)) (sym (seen_is (TellsDue due) middle new then_ then_.meant.nothing))
      ∙ ap (λ s. wakes_by s latest (past_of new.seen)) first.desk.setting in
      record {
        middle = middle;
        looked = look_of (TellsCounts counts) old middle first first.meant.nothing;
        not_skipped = looked old middle counts first ∙ says;
        looked_again = look_of (TellsDue due) middle new then_ then_.meant.nothing;
        waits = subst (λ u. Gets (Wait u answer) l m) wakes got;
      }

  pub both_look : HasLooked old new
  both_look =
      let one = look_of (TellsCounts counts) old middle first first.meant.nothing in
      let two = look_of (TellsDue due) middle new then_ then_.meant.nothing in
      record { goes_on = goes_on_trans old middle new one.goes_on two.goes_on; own = two.own ∙ one.own; names = two.names ∙ one.names }

pub pause_err : (latest : ℕ) (result : Result Paused NoMemory) (old new : Known) (l m : Option (List WorldCall)) → is_err result ≡ true → HasLooked old new → m ≡ l → Pauses latest result old new l m
pause_err latest (Ok answer) old new l m err goes log = absurd (cc err)
pause_err latest (Err fault) old new l m err goes log = (goes, log)
