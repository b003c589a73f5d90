-- The logs of a World with cookies and of the World that it stands around agree.
use Rattle.std.specs.Prelude.{◌≡◌, List, [], ◌∷◌, ◌++◌, Option, Some, None, option_map}
use Rattle.std.specs.List.{flat_map}
use Rattle.std.specs.Option.{option_to_list}
use Rattle.net_world.specs.declared.log.WorldCall.{WorldCall}
use Rattle.cookie_world.specs.Rounds.{Makes, IsCut}
use Rattle.cookie_world.specs.State.{CookieState, MayHold, at_start}

-- a call with its answer, or one that answered want of memory, and the calls of the inner World that it made
pub record Round : Type 0 where
  pub outer : Option WorldCall
  pub inner : List WorldCall

-- what a call made of the inner World
abbrev pub IsMade : Option WorldCall → CookieState → List WorldCall → CookieState → Type 0
IsMade None old inner new = IsCut old inner new
IsMade (Some call) old inner new = Makes call old inner new

-- the calls were made one after the other, each by its meaning
abbrev pub AreMade : List Round → CookieState → CookieState → Type 0
AreMade [] old new = new ≡ old
AreMade (round ∷ rounds) old new = (middle : CookieState) × IsMade round.outer old round.inner middle × AreMade rounds middle new

-- the calls of some rounds, and those of the inner World
abbrev pub outer_calls : List Round → List WorldCall
outer_calls rounds = flat_map (λ round. option_to_list round.outer) rounds

abbrev pub inner_calls : List Round → List WorldCall
inner_calls rounds = flat_map (λ round. round.inner) rounds

-- the calls of the inner World are those that the calls of the outer one make, each by its meaning, from the start on
pub record CookieLogsAgree (inner outer : List WorldCall) (state : CookieState) : Type 0 where
  pub rounds : List Round
  pub made : AreMade rounds at_start state
  pub inner_is : inner ≡ inner_calls rounds
  pub outer_is : outer ≡ outer_calls rounds

-- where the inner World tells its log, that is as it began, and behind it the calls that agree with the own ones; and what is
-- held can be
pub record Stands (began log : Option (List WorldCall)) (state : CookieState) : Type 0 where
  pub inner : List WorldCall
  pub agree : CookieLogsAgree inner state.log state
  pub added : log ≡ option_map (λ calls. calls ++ inner) began
  pub held : MayHold state.held
