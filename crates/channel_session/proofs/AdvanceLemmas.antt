-- Parts of a session, one behind the other.
use Rattle.std.proofs.Common.{◌≡◌, ◌∙◌, ℕ, ◌+◌, ◌≤◌, ◌==◌, ◌&&◌, ◌||◌, true, List, [], ◌∷◌, ◌++◌, refl, ap, sym, subst, arith}
use Rattle.std.specs.Prelude.{None, Option, Some, filter_map, is_some, option_map, ⊤}
use Rattle.std.specs.List.{list_all}
use Rattle.std.proofs.lemmas.Bool.{and_from, and_parts}
use Rattle.std.proofs.lemmas.List.{append-nil}
use Rattle.std.proofs.lemmas.List.Elements.{filter_map-append}
use Rattle.std.proofs.lemmas.List.Folds.{list_all-append}
use Rattle.chan_types.specs.declared.journal.Entry.{Entry}
use Rattle.chan_types.specs.declared.journal.What.{What}
use Rattle.chan_types.specs.declared.journal.What.TheVariants.{Accept, Arrive, Cancel, Destroy, Expire, Fault, Servers, Start, Take}
use Rattle.net_world.specs.Logs.{LogGets}
use Rattle.net_world.specs.declared.log.WorldCall.{WorldCall}
use Rattle.channel_model.proofs.Theorems.{own-append}
use Rattle.channel_model.specs.Completion.{taken_by}
use Rattle.channel_model.specs.Course.{is_of_turn}
use Rattle.channel_model.specs.Journal.{own_entries}
use Rattle.channel_model.specs.Known.{GoesOn, Known}
use Rattle.event_runner.proofs.Theorems.{ran_at_most, told_as, told_by, told_trans}
use Rattle.event_runner.proofs.TrailLemmas.{goes_of, trail_none, trail_of, trail_trans}
use Rattle.event_runner.specs.Goes.{AreMadeInTurns, is_made_in_turn}
use Rattle.event_runner.specs.UnderWay.{RunsSince, rested}
use Rattle.channel_session.specs.Advancing.{Advances, AreOfSession, ComesToRest, IsCutOff, LogGrows, is_of_session, taken_in}
use Rattle.channel_session.specs.Beginning.{BegunSince}
use Rattle.channel_session.specs.Sitting.{Moment, StandsBehind, longest_pause}

-- what a turn made, a session made
turn_is : (e : Entry) → is_made_in_turn e ≡ true → is_of_session e ≡ true
turn_is e made =
    let parts = and_parts (is_of_turn e) (e.by == 0) made in
    and_from (is_of_turn e || is_some (taken_by e.what)) (e.by == 0) (ap (λ b. b || is_some (taken_by e.what)) parts.0) parts.1

pub all_of_session : (es : List Entry) → list_all is_made_in_turn es ≡ true → list_all is_of_session es ≡ true
all_of_session [] all = refl
all_of_session (e ∷ es) all =
    let parts = and_parts (is_made_in_turn e) (list_all is_made_in_turn es) all in
    and_from (is_of_session e) (list_all is_of_session es) (turn_is e parts.0) (all_of_session es parts.1)

pub turns_are : (seat : ℕ) (es : List Entry) → AreMadeInTurns seat es → AreOfSession seat es
turns_are seat es made = all_of_session (own_entries seat es) made

-- two stretches of entries
own_both : (a b : Known) (es fs : List Entry) → b.seat ≡ a.seat → AreOfSession a.seat es → AreOfSession b.seat fs → AreOfSession a.seat (es ++ fs)
own_both a b es fs seat x y =
    ap (list_all is_of_session) (own-append a.seat es fs) ∙ list_all-append is_of_session (own_entries a.seat es) (own_entries a.seat fs)
    ∙ and_from (list_all is_of_session (own_entries a.seat es)) (list_all is_of_session (own_entries a.seat fs)) x (subst (λ s. AreOfSession s fs) seat y)

-- what a turn made takes no request
none_taken : (what : What) (by : ℕ) → (is_of_turn (record { seat = 0; by = by; what = what }) && (by == 0)) ≡ true → taken_by what ≡ None
none_taken (Accept number spec script) by made = absurd (cc made)
none_taken Cancel by made = absurd (cc made)
none_taken Destroy by made = absurd (cc made)
none_taken (Take number) by made = absurd (cc made)
none_taken (Start number leg server link id mix moment) by made = refl
none_taken (Arrive server link bytes) by made = refl
none_taken (Expire number leg moment) by made = refl
none_taken (Fault server link moment) by made = refl
none_taken (Servers list) by made = absurd (cc made)

all_none_taken : (es : List Entry) → list_all is_made_in_turn es ≡ true → filter_map (λ entry. taken_by entry.what) es ≡ []
all_none_taken [] all = refl
all_none_taken (e ∷ es) all =
    let parts = and_parts (is_made_in_turn e) (list_all is_made_in_turn es) all in
    rw (none_taken e.what e.by parts.0) (all_none_taken es parts.1)

pub turns_take : (seat : ℕ) (es : List Entry) → AreMadeInTurns seat es → taken_in seat es ≡ []
turns_take seat es made = all_none_taken (own_entries seat es) made

-- two stretches of entries, and what they take
taken_both : (seat : ℕ) (es fs : List Entry) → taken_in seat (es ++ fs) ≡ taken_in seat es ++ taken_in seat fs
taken_both seat es fs =
    ap (filter_map (λ entry. taken_by entry.what)) (own-append seat es fs) ∙ filter_map-append (λ entry. taken_by entry.what) (own_entries seat es) (own_entries seat fs)

-- a log that is told, and grows
pub grows_none : (l : Option (List WorldCall)) → LogGrows l l
grows_none l = told_by (λ cs. ⊤) [] tt l l (same l)
  where
    same : (l : Option (List WorldCall)) → l ≡ option_map (λ calls. calls ++ []) l
    same None = refl
    same (Some x) = ap Some (sym (append-nil x))

pub grows_same : (l m : Option (List WorldCall)) → m ≡ l → LogGrows l m
grows_same l m is = subst (λ n. LogGrows l n) (sym is) (grows_none l)

pub grows_then : (l m n : Option (List WorldCall)) → LogGrows l m → LogGrows m n → LogGrows l n
grows_then l m n = told_trans (λ cs. ⊤) (λ cs. ⊤) (λ cs. ⊤) (λ cs ds p q. tt) l m n

pub grows_by : (P : List WorldCall → Type 0) (l m : Option (List WorldCall)) → LogGets P l m → LogGrows l m
grows_by P l m = told_as P (λ cs. ⊤) (λ cs p. tt) l m

-- a desk went on, made nothing but what a session makes, and took these requests
pub record Moves (taken : List ℕ) (old new : Known) : Type 0 where
  pub goes_on : GoesOn old new
  pub own : AreOfSession old.seat goes_on.since
  pub takes : taken_in old.seat goes_on.since ≡ taken

pub moves_then : (taken : List ℕ) (a b c : Known) → Moves [] a b → Moves taken b c → Moves taken a c
moves_then taken a b c x y = record {
  goes_on = goes_of a c (x.goes_on.since ++ y.goes_on.since) (trail_trans a b c x.goes_on.since y.goes_on.since (trail_of a b x.goes_on) (trail_of b c y.goes_on));
  own = own_both a b x.goes_on.since y.goes_on.since x.goes_on.desk.seat x.own y.own;
  takes =
      taken_both a.seat x.goes_on.since y.goes_on.since ∙ ap (λ ns. ns ++ taken_in a.seat y.goes_on.since) x.takes
      ∙ subst (λ seat. taken_in seat y.goes_on.since ≡ taken) x.goes_on.desk.seat y.takes;
}

abbrev pub advance_moves : (m : ℕ) (taken : List ℕ) (a b : Moment) → Advances m taken a b → Moves taken a.known b.known
advance_moves m taken a b x = record { goes_on = x.goes_on; own = x.own; takes = x.takes }

abbrev pub rest_moves : (m : ℕ) (a b : Moment) → ComesToRest m a b → Moves [] a.known b.known
rest_moves m a b x = record { goes_on = x.goes_on; own = x.own; takes = x.takes }

abbrev pub cut_moves : (m : ℕ) (a b : Moment) → IsCutOff m a b → Moves [] a.known b.known
cut_moves m a b x = record { goes_on = x.goes_on; own = x.own; takes = x.takes }

-- the same number of turns
pub as_many : (m n asides : ℕ) (began : Option (List WorldCall)) (a : Moment) → m ≡ n → StandsBehind m asides began a → StandsBehind n asides began a
as_many m n asides began a is = subst (λ k. StandsBehind k asides began a) is

-- nothing was done
pub advances_none : (a : Moment) → Advances 0 [] a a
advances_none a = record {
  goes_on = goes_of a.known a.known [] (trail_none a.known);
  own = refl;
  takes = refl;
  grows = grows_none a.log;
  stands = λ began turns asides here. as_many turns (turns + 0) asides began a (omega arith) here;
}

-- one part and then another
pub advances_then : (m n : ℕ) (taken : List ℕ) (a b c : Moment) → Advances m [] a b → Advances n taken b c → Advances (m + n) taken a c
advances_then m n taken a b c x y =
    let moved = moves_then taken a.known b.known c.known (advance_moves m [] a b x) (advance_moves n taken b c y) in
    record {
      goes_on = moved.goes_on;
      own = moved.own;
      takes = moved.takes;
      grows = grows_then a.log b.log c.log x.grows y.grows;
      stands = λ began turns asides here.
          as_many ((turns + m) + n) (turns + (m + n)) asides began c (omega arith) (y.stands began (turns + m) asides (x.stands began turns asides here));
    }

-- one part, and then a rest
pub rests_then : (m n : ℕ) (a b c : Moment) → Advances m [] a b → ComesToRest n b c → ComesToRest (m + n) a c
rests_then m n a b c x y =
    let moved = moves_then [] a.known b.known c.known (advance_moves m [] a b x) (rest_moves n b c y) in
    record {
      goes_on = moved.goes_on;
      own = moved.own;
      takes = moved.takes;
      grows = grows_then a.log b.log c.log x.grows y.grows;
      rests = λ began turns asides here.
          let same : (turns + m) + n ≡ turns + (m + n) = omega arith in
          subst (λ k. RunsSince longest_pause k asides rested c.known c.sitting.running began c.log) same
          (y.rests began (turns + m) asides (x.stands began turns asides here));
      begun = λ began turns asides here.
          let same : (turns + m) + n ≡ turns + (m + n) = omega arith in
          subst (λ k. BegunSince longest_pause k c.known began c.log) same (y.begun began (turns + m) asides (x.stands began turns asides here));
    }

-- one part, and then want of memory, with more turns allowed
pub cut_then : (m n most : ℕ) (a b c : Moment) → m + n ≤ most → Advances m [] a b → IsCutOff n b c → IsCutOff most a c
cut_then m n most a b c fits x y =
    let moved = moves_then [] a.known b.known c.known (advance_moves m [] a b x) (cut_moves n b c y) in
    record {
      goes_on = moved.goes_on;
      own = moved.own;
      takes = moved.takes;
      grows = grows_then a.log b.log c.log x.grows y.grows;
      ran = λ began turns asides here.
          ran_at_most longest_pause ((turns + m) + n) (turns + most) asides c.known began c.log (omega (arith, fits))
          (y.ran began (turns + m) asides (x.stands began turns asides here));
    }
