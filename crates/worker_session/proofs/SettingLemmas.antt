-- Servers that a seat sets behind the first turn: what stays so where journal and calls go on.
use Rattle.std.proofs.Common.{◌≡◌, ◌∙◌, ℕ, ◌||◌, ◌==◌, true, false, List, [], ◌∷◌, ◌++◌, Option, Some, None, refl, ap, ap₂, subst, inl, inr}
use Rattle.std.specs.Prelude.{is_some}
use Rattle.std.specs.List.{list_all}
use Rattle.std.proofs.lemmas.Bool.{and_parts}
use Rattle.std.proofs.lemmas.List.{append-nil, append_assoc}
use Rattle.std.proofs.lemmas.List.Folds.{list_any-append}
use Rattle.chan_types.specs.declared.journal.Entry.{Entry}
use Rattle.chan_types.specs.declared.journal.What.{What}
use Rattle.chan_types.specs.declared.journal.What.TheVariants.{Accept, Arrive, Cancel, Destroy, Expire, Fault, Servers, Start, Take}
use Rattle.channel_model.proofs.Theorems.{own-append}
use Rattle.channel_model.specs.Course.{is_of_turn}
use Rattle.channel_model.specs.Journal.{own_entries}
use Rattle.channel_model.specs.Servers.{servers_set_by}
use Rattle.channel_model.specs.Setting.{Setting}
use Rattle.event_runner.specs.Goes.{is_made_in_turn}
use Rattle.net_addr.specs.declared.addr.ServerAddr.{ServerAddr}
use Rattle.net_world.specs.declared.log.WorldCall.{WorldCall}
use Rattle.worker_session.specs.Setting.{AreNotSet, AreSet, IsBehindFirst, IsOneTurn, SetsBehindFirst, SetsNone, SetsSoFar, has_set, setting_entry}

-- two stretches in which the seat sets none
pub sets_none_both : (seat : ℕ) (es fs : List Entry) → SetsNone seat es → SetsNone seat fs → SetsNone seat (es ++ fs)
sets_none_both seat es fs one two =
    ap has_set (own-append seat es fs)
    ∙ list_any-append (λ e. is_some (servers_set_by e.what)) (own_entries seat es) (own_entries seat fs)
    ∙ ap₂ (λ a b. a || b) one two

-- where the seat made nothing it set none
pub sets_none_own : (seat : ℕ) (es : List Entry) → own_entries seat es ≡ [] → SetsNone seat es
sets_none_own seat es none = ap has_set none

-- what only a turn makes sets none
turn_sets : (what : What) (seat by : ℕ) → is_of_turn (record { seat = seat; by = by; what = what }) ≡ true → is_some (servers_set_by what) ≡ false
turn_sets (Accept number spec script) seat by made = refl
turn_sets Cancel seat by made = refl
turn_sets Destroy seat by made = refl
turn_sets (Take number) seat by made = refl
turn_sets (Start number leg server link id mix moment) seat by made = refl
turn_sets (Arrive server link bytes) seat by made = refl
turn_sets (Expire number leg moment) seat by made = refl
turn_sets (Fault server link moment) seat by made = refl
turn_sets (Servers list) seat by made = absurd (cc made)

all_turns_set : (es : List Entry) → list_all is_made_in_turn es ≡ true → has_set es ≡ false
all_turns_set [] all = refl
all_turns_set (e ∷ es) all =
    let parts = and_parts (is_made_in_turn e) (list_all is_made_in_turn es) all in
    ap₂ (λ a b. a || b) (turn_sets e.what e.seat e.by (and_parts (is_of_turn e) (e.by == 0) parts.0).0) (all_turns_set es parts.1)

pub sets_none_turns : (seat : ℕ) (es : List Entry) → list_all is_made_in_turn (own_entries seat es) ≡ true → SetsNone seat es
sets_none_turns seat es made = all_turns_set (own_entries seat es) made

module _ (setting : Setting) (seat : ℕ) where
  -- a first turn is that of a longer log
  turn_on : (journal : List Entry) (calls ds : List WorldCall) → IsOneTurn setting seat journal calls → IsOneTurn setting seat journal (calls ++ ds)
  turn_on journal calls ds turn = record {
    calls_earlier = turn.calls_earlier;
    calls_behind = turn.calls_behind ++ ds;
    calls_are = ap (λ l. l ++ ds) turn.calls_are ∙ append_assoc turn.calls_earlier turn.calls_behind ds;
    course = turn.course;
  }

  place_on : (earlier : List Entry) (calls ds : List WorldCall) → IsBehindFirst setting seat earlier calls → IsBehindFirst setting seat earlier (calls ++ ds)
  place_on earlier calls ds place = record {
    first = place.first;
    others = place.others;
    parts = place.parts;
    by_others = place.by_others;
    turn = turn_on place.first calls ds place.turn;
  }

  module _ (journal es : List Entry) (calls ds : List WorldCall) (none : SetsNone seat es) where
    set_more : (addresses : List ServerAddr) → AreSet setting seat addresses journal calls → AreSet setting seat addresses (journal ++ es) (calls ++ ds)
    set_more addresses set = record {
      earlier = set.earlier;
      behind = set.behind ++ es;
      parts = ap (λ l. l ++ es) set.parts ∙ append_assoc set.earlier (setting_entry setting seat addresses set.earlier ∷ set.behind) es;
      place = place_on set.earlier calls ds set.place;
      none_earlier = set.none_earlier;
      none_behind = sets_none_both seat set.behind es set.none_behind none;
    }

    not_set_more : AreNotSet setting seat journal calls → AreNotSet setting seat (journal ++ es) (calls ++ ds)
    not_set_more not_set = record {
      earlier = not_set.earlier;
      behind = not_set.behind ++ es;
      parts = ap (λ l. l ++ es) not_set.parts ∙ append_assoc not_set.earlier not_set.behind es;
      place = place_on not_set.earlier calls ds not_set.place;
      destroyed = not_set.destroyed;
      none = sets_none_both seat journal es not_set.none none;
    }

    -- a seat that set servers behind the first turn, or had none to set, did so in a longer journal and log
    pub sets_more : (later : Option (List ServerAddr)) (made again : ℕ) → (made ≡ 0 → again ≡ 0) → SetsBehindFirst setting seat later made journal calls → SetsBehindFirst setting seat later again (journal ++ es) (calls ++ ds)
    sets_more None made again first sets = sets_none_both seat journal es sets none
    sets_more (Some addresses) made again first (inl unset) = inl (first unset.0, sets_none_both seat journal es unset.1 none)
    sets_more (Some addresses) made again first (inr (inl set)) = inr (inl (set_more addresses set))
    sets_more (Some addresses) made again first (inr (inr not_set)) = inr (inr (not_set_more not_set))

    -- where a turn was made or there are none to set, it is no matter how many more are made
    pub sets_turned : (later : Option (List ServerAddr)) (made again : ℕ) → (made ≡ 0 → later ≡ None) → SetsBehindFirst setting seat later made journal calls → SetsBehindFirst setting seat later again (journal ++ es) (calls ++ ds)
    sets_turned None made again some sets = sets_none_both seat journal es sets none
    sets_turned (Some addresses) made again some (inl unset) = absurd (cc (some unset.0))
    sets_turned (Some addresses) made again some (inr (inl set)) = inr (inl (set_more addresses set))
    sets_turned (Some addresses) made again some (inr (inr not_set)) = inr (inr (not_set_more not_set))

-- behind a run that wanted memory entries may stand by which the seat sets none
pub so_far_more : (setting : Setting) (seat : ℕ) (later : Option (List ServerAddr)) (made : ℕ) (journal es : List Entry) (calls : List WorldCall) → SetsNone seat es →
    SetsSoFar setting seat later made journal calls → SetsSoFar setting seat later made (journal ++ es) calls
so_far_more setting seat later made journal es calls none (inl sets) =
    inl (subst (SetsBehindFirst setting seat later made (journal ++ es)) (append-nil calls) (sets_more setting seat journal es calls [] none later made made (λ is. is) sets))
so_far_more setting seat later made journal es calls none (inr unset) = inr (unset.0, sets_none_both seat journal es unset.1 none)
