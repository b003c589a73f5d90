-- What came became what it becomes, for each way in which that is done.
use Rattle.std.proofs.Common.{◌≡◌, ℕ, ◌<◌, List, [], ◌∷◌, ◌++◌, length, Option, Result, Ok, Err, IfOk, refl, sym, ap, subst, ◌∙◌}
use Rattle.std.specs.Prelude.{option_map, IfErr}
use Rattle.net_world.specs.declared.answers.Got.{Got}
use Rattle.net_world.specs.declared.answers.Got.TheVariants.{Datagram, Piece}
use Rattle.net_world.specs.declared.answers.Sent.{Sent}
use Rattle.net_world.specs.declared.log.WorldCall.{WorldCall}
use Rattle.net_world.specs.declared.log.WorldCall.TheVariants.{Receive, Send}
use Rattle.cookie_world.specs.Receiving.{Carries, Hands}
use Rattle.cookie_world.specs.Rounds.{Becomes, Answers, given_again, told, with_repeat}
use Rattle.cookie_world.specs.State.{CookieState}
use Rattle.cookie_world.specs.declared.state.Peer.{Peer}
use Rattle.cookie_world.specs.declared.state.Query.{Query}
use Rattle.cookie_world.specs.declared.verdict.Verdict.{Verdict}
use Rattle.cookie_world.specs.declared.verdict.Verdict.TheVariants.{Again}
use Rattle.cookie_world.proofs.LogLemmas.{none_more}

module _ (log : Option (List WorldCall)) (old new : CookieState) where
  -- what takes no memory is handed on
  pub hands_plain : (got : Got) → Answers got got [] old old → new ≡ told (Receive got) old → Hands got (Ok got) log log old new
  hands_plain got answers state = ([], old, none_more log, answers, state)

  -- a piece is handed on, or given back
  pub hands_piece : (link : ℕ) (bytes : List ℕ) (result : Result Got Got) → 0 < length bytes → IfOk result (λ got. (got ≡ Piece link bytes) × (new ≡ told (Receive got) old))
      → IfErr result (λ back. (back ≡ Piece link bytes) × (new ≡ old)) → Hands (Piece link bytes) result log log old new
  hands_piece link bytes (Ok got) some ok err = ([], old, none_more log, (ok.0, refl, refl), ok.1)
  hands_piece link bytes (Err back) some ok err = (err.0, some, refl, err.1)

  -- a datagram is handed on with what its verdict teaches, or given back
  pub carries_on : (server : ℕ) (bytes : List ℕ) (verdict : Verdict) (judged : CookieState) (result : Result Got Got) → Becomes server bytes verdict (Datagram server bytes) [] old judged
      → IfOk result (λ got. (got ≡ Datagram server bytes) × (new ≡ told (Receive got) judged)) → IfErr result (λ back. (back ≡ Datagram server bytes) × (new ≡ old)) → Carries server bytes verdict result log log old new
  carries_on server bytes verdict judged (Ok got) becomes ok err = ([], judged, none_more log, subst (λ (g : Got). Becomes server bytes verdict g [] old judged) (sym ok.0) becomes, ok.1)
  carries_on server bytes verdict judged (Err back) becomes ok err = (err.0, refl, err.1)

-- a query was sent again
pub carries_again : (before after : Option (List WorldCall)) (old new : CookieState) (server : ℕ) (bytes : List ℕ) (peer : Peer) (query : Query) (sent : List ℕ) (outcome : Sent) (got : Got)
    → after ≡ option_map (λ calls. calls ++ Send server sent outcome ∷ []) before → got ≡ given_again server outcome → new ≡ told (Receive (given_again server outcome)) (with_repeat peer query old)
    → Carries server bytes (Again peer query sent) (Ok got) before after old new
carries_again before after old new server bytes peer query sent outcome got log given state =
    (Send server sent outcome ∷ [], with_repeat peer query old, log, (outcome, given, refl, refl), state ∙ ap (λ (g : Got). told (Receive g) (with_repeat peer query old)) (sym given))
