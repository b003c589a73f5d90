-- What a call made of the inner World, for each way in which a call ends.
use Rattle.std.proofs.Common.{◌≡◌, inl, inr, ℕ, ◌≤◌, true, List, [], ◌∷◌, ◌++◌, Option, Some, None, length, Result, Ok, Err, refl, ap, subst, ◌∙◌, arith}
use Rattle.std.specs.Prelude.{option_map, is_err}
use Rattle.item_list.specs.declared.no_memory.NoMemory.{NoMemory}
use Rattle.net_world.specs.declared.answers.Got.{Got}
use Rattle.net_world.specs.declared.log.WorldCall.{WorldCall}
use Rattle.net_world.specs.declared.log.WorldCall.TheVariants.{Serve, Receive}
use Rattle.net_addr.specs.declared.addr.ServerAddr.{ServerAddr}
use Rattle.net_world.specs.Logs.{Logs}
use Rattle.cookie_world.specs.Receiving.{TakesNext, Hands}
use Rattle.cookie_world.specs.Rounds.{Makes, Passes, Goes, Answers, IsNext, receiving, told, draws_of}
use Rattle.cookie_world.specs.Serving.{DrawsWords}
use Rattle.cookie_world.specs.State.{CookieState, state_of, with_peer}
use Rattle.cookie_world.specs.declared.state.Kept.{Kept}
use Rattle.cookie_world.proofs.LogLemmas.{same_more, both_more}

module _ {T : Type 0} (call : T → WorldCall) (before after : Option (List WorldCall)) (old new : CookieState) where
  -- memory was wanting, and nothing was done
  pub goes_nowhere : (e : NoMemory) → after ≡ before → new ≡ old → Goes call (Err e) before after old new
  goes_nowhere e log state = record { inner = []; log = same_more before after log; makes = inl (record { words = []; few = omega arith; calls = refl; state = state }) }

  -- memory was wanting, and words were drawn
  pub goes_drawing : (e : NoMemory) (words : List ℕ) → length words ≤ 4 → after ≡ option_map (λ calls. calls ++ draws_of words) before → new ≡ old → Goes call (Err e) before after old new
  goes_drawing e words few log state = record { inner = draws_of words; log = log; makes = inl (record { words = words; few = few; calls = refl; state = state }) }

  -- the same of a result that is an error
  pub err_nowhere : (result : Result T NoMemory) → is_err result ≡ true → after ≡ before → new ≡ old → Goes call result before after old new
  err_nowhere (Ok answer) err log state = absurd (cc err)
  err_nowhere (Err e) err log state = goes_nowhere e log state

  pub err_drawing : (result : Result T NoMemory) → is_err result ≡ true → (words : List ℕ) → length words ≤ 4 → after ≡ option_map (λ calls. calls ++ draws_of words) before → new ≡ old → Goes call result before after old new
  err_drawing (Ok answer) err words few log state = absurd (cc err)
  err_drawing (Err e) err words few log state = goes_drawing e words few log state

  -- one call was made
  pub goes_once : (answer : T) (made : WorldCall) → after ≡ option_map (λ calls. calls ++ made ∷ []) before → Makes (call answer) old (made ∷ []) new → Goes call (Ok answer) before after old new
  goes_once answer made log makes = record { inner = made ∷ []; log = log; makes = makes }

  -- the call was passed on alone
  pub goes_alone : (answer : T) → Logs before after (Ok answer) call → new ≡ told (call answer) old → (Passes (call answer) old (call answer ∷ []) new → Makes (call answer) old (call answer ∷ []) new) → Goes call (Ok answer) before after old new
  goes_alone answer log state is = goes_once answer (call answer) log (is (record { alone = refl; state = state }))

-- a server was told, behind the words of its client cookie
pub goes_serving : (server : ℕ) (address : ServerAddr) (before middle after : Option (List WorldCall)) (old room new : CookieState) (bytes : List ℕ) → room ≡ old → DrawsWords 4 (Ok tt) before middle [] bytes → after ≡ option_map (λ calls. calls ++ Serve server address ∷ []) middle
    → new ≡ told (Serve server address) (record room { peers = with_peer (record { server = server; cookie = bytes }) room.peers }) → Goes (λ (done : Unit {0}). Serve server address) (Ok tt) before after old new
goes_serving server address before middle after old room new bytes same draws log state =
    subst (λ (s : CookieState). Goes (λ (done : Unit {0}). Serve server address) (Ok tt) before after s new) same
    (record {
      inner = draws_of draws.words ++ Serve server address ∷ [];
      log = both_more (draws_of draws.words) (Serve server address ∷ []) before middle after draws.log log;
      makes = record {
        words = draws.words;
        four = draws.drawn.0;
        calls = refl;
        state = state ∙ ap (λ (b : List ℕ). told (Serve server address) (record room { peers = with_peer (record { server = server; cookie = b }) room.peers })) draws.drawn.1;
      };
    })

-- it is given back as it came, and held then as before
held_again : (kept : Kept) (came back : Got) (held : Got) → kept.held ≡ Some held → came ≡ held → back ≡ came → record (state_of kept) { held = Some back } ≡ state_of kept
held_again kept came back held is next given = rw (given, next, ← is) refl

-- what came was judged or handed on
pub received : (came got : Got) (before middle after : Option (List WorldCall)) (kept taken : Kept) (new : CookieState) → TakesNext (Ok came) before middle kept taken → Hands came (Ok got) middle after (state_of taken) new
    → Goes Receive (Ok got) before after (state_of kept) new
received came got before middle after kept taken new takes hands =
    let same : state_of taken ≡ record (state_of kept) { held = None } = ap state_of takes.2 in
    record {
      inner = receiving kept.held came ++ hands.0;
      log = both_more (receiving kept.held came) hands.0 before middle after takes.1 hands.2;
      makes = record {
        came = came;
        calls = hands.0;
        judged = hands.1;
        next = takes.0;
        answers = subst (λ (s : CookieState). Answers came got hands.0 s hands.1) same hands.3;
        inner_is = refl;
        state = hands.4;
      };
    }

-- memory was wanting for what came: it is held, as it may have been before
module _ (came back : Got) (before middle after : Option (List WorldCall)) (kept taken : Kept) (left new : CookieState) (e : NoMemory) where
  held_by : (held : Option Got) → kept.held ≡ held → TakesNext (Ok came) before middle kept taken → Hands came (Err back) middle after (state_of taken) left → new ≡ record left { held = Some back } → Goes Receive (Err e) before after (state_of kept) new
  held_by None is takes hands state =
      let first : receiving kept.held came ≡ Receive came ∷ [] = rw is refl in
      let was : left ≡ record (state_of kept) { held = None } = hands.3 ∙ ap state_of takes.2 in
      record {
        inner = Receive came ∷ [];
        log = hands.2 ∙ takes.1 ∙ ap (λ (calls : List WorldCall). option_map (λ (log : List WorldCall). log ++ calls) before) first;
        makes = inr (record { came = came; can = hands.1; empty = is; calls = refl; state = state ∙ ap (λ (s : CookieState). record s { held = Some back }) was ∙ ap (λ (got : Got). record (state_of kept) { held = Some got }) hands.0 });
      }
  held_by (Some held) is takes hands state =
      let none : receiving kept.held came ≡ [] = rw is refl in
      let next : came ≡ held = subst (λ (h : Option Got). IsNext h came) is takes.0 in
      let was : left ≡ record (state_of kept) { held = None } = hands.3 ∙ ap state_of takes.2 in
      record {
        inner = [];
        log = hands.2 ∙ takes.1 ∙ ap (λ (calls : List WorldCall). option_map (λ (log : List WorldCall). log ++ calls) before) none;
        makes = inl (record { words = []; few = omega arith; calls = refl; state = state ∙ ap (λ (s : CookieState). record s { held = Some back }) was ∙ held_again kept came back held is next hands.0 });
      }

  pub receive_held : TakesNext (Ok came) before middle kept taken → Hands came (Err back) middle after (state_of taken) left → new ≡ record left { held = Some back } → Goes Receive (Err e) before after (state_of kept) new
  receive_held takes hands state = held_by kept.held refl takes hands state
