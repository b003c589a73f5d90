-- What a call of a World with cookies leaves as every World's call does: its log, its count of failures, what it holds.
use Rattle.std.proofs.Common.{◌≡◌, ⊎_elim, ℕ, ◌≤◌, Bool, true, false, cond, List, [], ◌∷◌, ◌++◌, Option, Some, None, Result, Ok, Err, refl, sym, ap, subst, ◌∙◌, arith}
use Rattle.std.specs.Prelude.{option_map}
use Rattle.std.specs.Option.{option_to_list}
use Rattle.std.proofs.lemmas.List.{append-nil}
use Rattle.std.proofs.lemmas.List.Concat.{flat_map-append}
use Rattle.item_list.specs.declared.no_memory.NoMemory.{NoMemory}
use Rattle.net_world.specs.declared.answers.Got.{Got}
use Rattle.net_world.specs.declared.answers.Got.TheVariants.{Datagram, Piece, Ended, Nothing, Failed as LinkFailed}
use Rattle.net_world.specs.declared.log.WorldCall.{WorldCall}
use Rattle.net_world.specs.declared.log.WorldCall.TheVariants.{Serve, Now, Word, Send, Connect, Write, Receive, Close, Wait}
use Rattle.net_world.specs.Cause.{HasCause, raised}
use Rattle.net_world.specs.Logs.{Logs}
use Rattle.net_world.specs.World.{is_of_link}
use Rattle.net_world.proofs.CauseLemmas.{raised_later, raised_where}
use base.Stored.{Gv}
use Rattle.cookie_world.proofs.LogLemmas.{same_more, both_more}
use Rattle.cookie_world.proofs.BegunLemmas.{origin_tells}
use Rattle.cookie_world.specs.Begun.{begun_origin}
use Rattle.cookie_world.specs.Agreement.{Round, IsMade, AreMade, Stands, inner_calls, outer_calls}
use Rattle.cookie_world.specs.Rounds.{Becomes, Answers, Makes, IsCut, Draws, Holds, Goes, Passes, not_of, tells_failure, told}
use Rattle.cookie_world.specs.State.{CookieState, MayHold, at_start}
use Rattle.cookie_world.specs.Verdict.{verdict_of}
use Rattle.cookie_world.specs.declared.verdict.Verdict.{Verdict}
use Rattle.cookie_world.specs.declared.verdict.Verdict.TheVariants.{Pass, Lose, Teach, Again}

-- the log, the count and what is held are as before
pub record Keeps (old new : CookieState) : Type 0 where
  pub log : new.log ≡ old.log
  pub failures : new.failures ≡ old.failures
  pub held : new.held ≡ old.held

keeps_same : (old new : CookieState) → new ≡ old → Keeps old new
keeps_same old new is = record { log = ap (λ (s : CookieState). s.log) is; failures = ap (λ (s : CookieState). s.failures) is; held = ap (λ (s : CookieState). s.held) is }

-- judging a datagram leaves them
becomes_keeps : (server : ℕ) (bytes : List ℕ) (verdict : Verdict) (got : Got) (calls : List WorldCall) (old new : CookieState) → Becomes server bytes verdict got calls old new → Keeps old new
becomes_keeps server bytes Pass got calls old new b = keeps_same old new b.2
becomes_keeps server bytes Lose got calls old new b = keeps_same old new b.2
becomes_keeps server bytes (Teach peer) got calls old new b = record { log = ap (λ (s : CookieState). s.log) b.2; failures = ap (λ (s : CookieState). s.failures) b.2; held = ap (λ (s : CookieState). s.held) b.2 }
becomes_keeps server bytes (Again peer query sent) got calls old new b = record { log = ap (λ (s : CookieState). s.log) b.3; failures = ap (λ (s : CookieState). s.failures) b.3; held = ap (λ (s : CookieState). s.held) b.3 }

-- so does handing on what comes
answers_keeps : (came got : Got) (calls : List WorldCall) (old new : CookieState) → Answers came got calls old new → Keeps old new
answers_keeps (Datagram server bytes) got calls old new a = becomes_keeps server bytes (verdict_of old.peers old.queries server bytes) got calls old new a
answers_keeps (Piece link bytes) got calls old new a = keeps_same old new a.2
answers_keeps (Ended link) got calls old new a = keeps_same old new a.2
answers_keeps Nothing got calls old new a = keeps_same old new a.2
answers_keeps (LinkFailed server link) got calls old new a = keeps_same old new a.2

-- the call is in the log, counts where it tells a failure, and what is held may be received
pub record Tells (call : WorldCall) (old new : CookieState) : Type 0 where
  pub log : new.log ≡ old.log ++ call ∷ []
  pub failures : new.failures ≡ raised (tells_failure call) old.failures
  pub held : MayHold old.held → MayHold new.held

told_tells : (call : WorldCall) (old middle new : CookieState) → Keeps old middle → new ≡ told call middle → Tells call old new
told_tells call old middle new keeps is = record {
  log = ap (λ (s : CookieState). s.log) is ∙ ap (λ (log : List WorldCall). log ++ call ∷ []) keeps.log;
  failures = ap (λ (s : CookieState). s.failures) is ∙ ap (raised (tells_failure call)) keeps.failures;
  held = λ may. subst MayHold (sym (ap (λ (s : CookieState). s.held) is ∙ keeps.held)) may;
}

passes_tells : (call : WorldCall) (old : CookieState) (inner : List WorldCall) (new : CookieState) → Passes call old inner new → Tells call old new
passes_tells call old inner new passes = told_tells call old old new (keeps_same old old refl) passes.state

-- what isn't of a closed link may be received as before
not_of_may : (link : ℕ) (held : Option Got) → MayHold held → MayHold (not_of link held)
not_of_may link None may = tt
not_of_may link (Some got) may = by_test (is_of_link link got) may where
  by_test : (b : Bool) → MayHold (Some got) → MayHold (cond b None (Some got))
  by_test true may = tt
  by_test false may = may

-- each call tells itself
pub makes_tells : (call : WorldCall) (old : CookieState) (inner : List WorldCall) (new : CookieState) → Makes call old inner new → Tells call old new
makes_tells (Serve server address) old inner new m = record { log = ap (λ (s : CookieState). s.log) m.state; failures = ap (λ (s : CookieState). s.failures) m.state; held = λ may. subst MayHold (sym (ap (λ (s : CookieState). s.held) m.state)) may }
makes_tells (Now reading) old inner new m = passes_tells (Now reading) old inner new m
makes_tells (Word word) old inner new m = passes_tells (Word word) old inner new m
makes_tells (Send server bytes sent) old inner new m = record { log = ap (λ (s : CookieState). s.log) m.state; failures = ap (λ (s : CookieState). s.failures) m.state; held = λ may. subst MayHold (sym (ap (λ (s : CookieState). s.held) m.state)) may }
makes_tells (Connect server link sent) old inner new m = passes_tells (Connect server link sent) old inner new m
makes_tells (Write link bytes wrote) old inner new m = passes_tells (Write link bytes wrote) old inner new m
makes_tells (Receive got) old inner new m =
    let keeps = answers_keeps m.came got m.calls (record old { held = None }) m.judged m.answers in
    record {
      log = ap (λ (s : CookieState). s.log) m.state ∙ ap (λ (log : List WorldCall). log ++ Receive got ∷ []) keeps.log;
      failures = ap (λ (s : CookieState). s.failures) m.state ∙ ap (raised (tells_failure (Receive got))) keeps.failures;
      held = λ may. subst MayHold (sym (ap (λ (s : CookieState). s.held) m.state ∙ keeps.held)) tt;
    }
makes_tells (Close link) old inner new m = record { log = ap (λ (s : CookieState). s.log) m.state; failures = ap (λ (s : CookieState). s.failures) m.state; held = λ may. subst MayHold (sym (ap (λ (s : CookieState). s.held) m.state)) (not_of_may link old.held may) }
makes_tells (Wait until waited) old inner new m = passes_tells (Wait until waited) old inner new m

-- a call that answers want of memory tells nothing
pub record Silent (old new : CookieState) : Type 0 where
  pub log : new.log ≡ old.log
  pub failures : new.failures ≡ old.failures
  pub held : MayHold old.held → MayHold new.held

pub cut_silent : (old : CookieState) (inner : List WorldCall) (new : CookieState) → IsCut old inner new → Silent old new
cut_silent old inner new cut =
    ⊎_elim
    (λ (draws : Draws old inner new). record { log = ap (λ (s : CookieState). s.log) draws.state; failures = ap (λ (s : CookieState). s.failures) draws.state; held = λ may. subst MayHold (sym (ap (λ (s : CookieState). s.held) draws.state)) may })
    (λ (holds : Holds old inner new). record { log = ap (λ (s : CookieState). s.log) holds.state; failures = ap (λ (s : CookieState). s.failures) holds.state; held = λ may. subst MayHold (sym (ap (λ (s : CookieState). s.held) holds.state)) holds.can })
    cut

-- its own log, told where the inner one is
abbrev own : Option (List WorldCall) → CookieState → Option (List WorldCall)
own log state = option_map (λ calls. state.log) log

-- where the inner log goes on, the own one goes on with the call
own_goes : (inner : List WorldCall) (call : WorldCall) (before after : Option (List WorldCall)) (old new : CookieState) → after ≡ option_map (λ calls. calls ++ inner) before → new.log ≡ old.log ++ call ∷ []
    → own after new ≡ option_map (λ calls. calls ++ call ∷ []) (own before old)
own_goes inner call None after old new goes log = rw goes refl
own_goes inner call (Some calls) after old new goes log = rw goes (ap (λ (calls : List WorldCall). Some calls) log)

own_stays : (inner : List WorldCall) (before after : Option (List WorldCall)) (old new : CookieState) → after ≡ option_map (λ calls. calls ++ inner) before → new.log ≡ old.log → own after new ≡ own before old
own_stays inner None after old new goes log = rw goes refl
own_stays inner (Some calls) after old new goes log = rw goes (ap (λ (calls : List WorldCall). Some calls) log)

module _ {T : Type 0} (call : T → WorldCall) where
  -- the own log goes on as a World's does
  pub goes_logs : (result : Result T NoMemory) (before after : Option (List WorldCall)) (old new : CookieState) → Goes call result before after old new → Logs (own before old) (own after new) result call
  goes_logs (Ok answer) before after old new goes = own_goes goes.inner (call answer) before after old new goes.log (makes_tells (call answer) old goes.inner new goes.makes).log
  goes_logs (Err e) before after old new goes = own_stays goes.inner before after old new goes.log (cut_silent old goes.inner new goes.makes).log

  -- the count rises where the call tells a failure
  pub goes_cause : (fails : T → Bool) → ((answer : T) → tells_failure (call answer) ≡ fails answer) → (result : Result T NoMemory) (before after : Option (List WorldCall)) (old new : CookieState) → Goes call result before after old new
      → HasCause old.failures new.failures fails result
  goes_cause fails same (Ok answer) before after old new goes =
      let count : new.failures ≡ raised (fails answer) old.failures = (makes_tells (call answer) old goes.inner new goes.makes).failures ∙ ap (λ (b : Bool). raised b old.failures) (same answer) in
      record { later = subst (λ (n : ℕ). old.failures ≤ n) (sym count) (raised_later (fails answer) old.failures); cause = λ tells. raised_where (fails answer) old.failures new.failures count tells; same = tt }
  goes_cause fails same (Err e) before after old new goes =
      let count : new.failures ≡ old.failures = (cut_silent old goes.inner new goes.makes).failures in
      record { later = rw count (omega arith); cause = tt; same = count }

-- one round more
made_more : (rounds : List Round) (round : Round) (start old new : CookieState) → AreMade rounds start old → IsMade round.outer old round.inner new → AreMade (rounds ++ round ∷ []) start new
made_more [] round start old new made more = (new, subst (λ (s : CookieState). IsMade round.outer s round.inner new) made more, refl)
made_more (first ∷ rounds) round start old new made more = (made.0, made.1, made_more rounds round made.0 old new made.2 more)

inner_more : (rounds : List Round) (round : Round) → inner_calls (rounds ++ round ∷ []) ≡ inner_calls rounds ++ round.inner
inner_more rounds round = flat_map-append (λ (r : Round). r.inner) rounds (round ∷ []) ∙ ap (λ (calls : List WorldCall). inner_calls rounds ++ calls) (append-nil round.inner)

outer_more : (rounds : List Round) (round : Round) → outer_calls (rounds ++ round ∷ []) ≡ outer_calls rounds ++ option_to_list round.outer
outer_more rounds round = flat_map-append (λ (r : Round). option_to_list r.outer) rounds (round ∷ []) ∙ ap (λ (calls : List WorldCall). outer_calls rounds ++ calls) (append-nil (option_to_list round.outer))

-- where it stood, it stands one round further
stands_more : (round : Round) (began before after : Option (List WorldCall)) (old new : CookieState) → Stands began before old → IsMade round.outer old round.inner new → after ≡ option_map (λ log. log ++ round.inner) before
    → new.log ≡ old.log ++ option_to_list round.outer → MayHold new.held → Stands began after new
stands_more round began before after old new stands made goes log held = record {
  inner = stands.inner ++ round.inner;
  agree = record {
    rounds = stands.agree.rounds ++ round ∷ [];
    made = made_more stands.agree.rounds round _ old new stands.agree.made made;
    inner_is = ap (λ (calls : List WorldCall). calls ++ round.inner) stands.agree.inner_is ∙ sym (inner_more stands.agree.rounds round);
    outer_is = log ∙ ap (λ (calls : List WorldCall). calls ++ option_to_list round.outer) stands.agree.outer_is ∙ sym (outer_more stands.agree.rounds round);
  };
  added = both_more stands.inner round.inner began before after stands.added goes;
  held = held;
}

-- each call leaves it standing
stands_on : {T : Type 0} (call : T → WorldCall) (result : Result T NoMemory) (began before after : Option (List WorldCall)) (old new : CookieState) → Stands began before old → Goes call result before after old new → Stands began after new
stands_on call (Ok answer) began before after old new stands goes =
    let tells = makes_tells (call answer) old goes.inner new goes.makes in
    stands_more (record { outer = Some (call answer); inner = goes.inner }) began before after old new stands goes.makes goes.log tells.log (tells.held stands.held)
stands_on call (Err e) began before after old new stands goes =
    let silent = cut_silent old goes.inner new goes.makes in
    stands_more (record { outer = None; inner = goes.inner }) began before after old new stands goes.makes goes.log (silent.log ∙ sym (append-nil old.log)) (silent.held stands.held)

-- and how the log began is as it was, where the origin is
pub stands_behind : {T : Type 0} (call : T → WorldCall) (result : Result T NoMemory) (made made_new : Gv) (began began_new before after : Option (List WorldCall)) (old new : CookieState) → begun_origin made_new began_new ≡ begun_origin made began
    → Stands began before old → Goes call result before after old new → Stands began_new after new
stands_behind call result made made_new began began_new before after old new origin stands goes =
    subst (λ (b : Option (List WorldCall)). Stands b after new) (sym (origin_tells made_new made began_new began origin).1) (stands_on call result began before after old new stands goes)

-- before the first call, it stands
pub stands_first : (log : Option (List WorldCall)) → Stands log log at_start
stands_first log = record {
  inner = [];
  agree = record { rounds = []; made = refl; inner_is = refl; outer_is = refl };
  added = same_more log log refl;
  held = tt;
}
