-- Stretches of a helm's steering, one behind the other.
use Rattle.std.proofs.Common.{◌≡◌, ℕ, Bool, true, false, List, [], ◌∷◌, ◌++◌, MatchBool, None, Option, Some, refl, ap, sym, subst}
use Rattle.channel_fleet.specs.Steering.{Goes, IsAnswered, Move, Moves, MovesEach, Steering, delivering, finding_none, keeping, publishing, turning_on}
use Rattle.channel_fleet.specs.declared.shown.Shown.{Shown}
use Rattle.completion_ticket.specs.States.{CalledState, no_orders}
use Rattle.shared_channel.specs.Spending.{DeliversOne}
use Rattle.shared_channel.specs.Staying.{StaysSettled}
use Rattle.shared_channel.proofs.Theorems.{stays_counts, stays_delivery, stays_more, stays_same}
use Rattle.worker_session.specs.Stepping.{StepsOn}
use Rattle.worker_session.proofs.Theorems.{steps_none, steps_then}

module _ (earlier turns : ℕ) where
  pub goes_none : (s : Steering) → Goes earlier turns s s
  goes_none s = record { moves = []; each = refl }

  -- one thing was done
  pub goes_one : (move : Move) (old new : Steering) → Moves earlier turns move old new → Goes earlier turns old new
  goes_one move old new did = record { moves = move ∷ []; each = (new, did, refl) }

  -- a ready request was delivered, or none was ready
  pub goes_deliver : (called : Option CalledState) (old new : Steering) → DeliversOne no_orders old.caller called new.caller → new ≡ record old { caller = new.caller } → Goes earlier turns old new
  goes_deliver None old new did rest = goes_one finding_none old new (did, rest)
  goes_deliver (Some called) old new did rest = goes_one delivering old new (called, did, rest)

  -- the counts were answered, and published or not
  pub goes_publish : (is_told : Bool) (shown : Shown) (old new : Steering) → IsAnswered earlier turns shown old new → MatchBool is_told (new.told ≡ old.told ++ shown ∷ []) (new.told ≡ old.told) → Goes earlier turns old new
  goes_publish true shown old new answered told = goes_one (publishing shown) old new (answered, told)
  goes_publish false shown old new answered told = goes_one (keeping shown) old new (answered, told)

  each_then : (moves more : List Move) (a b c : Steering) → MovesEach earlier turns moves a b → MovesEach earlier turns more b c → MovesEach earlier turns (moves ++ more) a c
  each_then [] more a b c first then = subst (λ s. MovesEach earlier turns more s c) first then
  each_then (m ∷ ms) more a b c first then = (first.0, first.1, each_then ms more first.0 b c first.2 then)

  -- and more
  pub goes_then : (a b c : Steering) → Goes earlier turns a b → Goes earlier turns b c → Goes earlier turns a c
  goes_then a b c first then = record { moves = first.moves ++ then.moves; each = each_then first.moves then.moves a b c first.each then.each }

  -- what makes its turns went on by its own steps
  step_turning : (move : Move) (old new : Steering) → Moves earlier turns move old new → StepsOn old.turning new.turning
  step_turning delivering old new did = subst (StepsOn old.turning) (sym (ap (λ (s : Steering). s.turning) did.2)) (steps_none old.turning)
  step_turning finding_none old new did = subst (StepsOn old.turning) (sym (ap (λ (s : Steering). s.turning) did.1)) (steps_none old.turning)
  step_turning (publishing shown) old new did = subst (StepsOn old.turning) (sym did.0.turning) (steps_none old.turning)
  step_turning (keeping shown) old new did = subst (StepsOn old.turning) (sym did.0.turning) (steps_none old.turning)
  step_turning turning_on old new did = did.0

  each_turning : (moves : List Move) (old new : Steering) → MovesEach earlier turns moves old new → StepsOn old.turning new.turning
  each_turning [] old new same = subst (λ (s : Steering). StepsOn old.turning s.turning) (sym same) (steps_none old.turning)
  each_turning (m ∷ ms) old new did = steps_then old.turning did.0.turning new.turning (step_turning m old did.0 did.1) (each_turning ms did.0 new did.2)

  pub goes_turning : (old new : Steering) → Goes earlier turns old new → StepsOn old.turning new.turning
  goes_turning old new goes = each_turning goes.moves old new goes.each

  -- its calling pass told the answers of all that it took
  step_caller : (move : Move) (old new : Steering) → Moves earlier turns move old new → StaysSettled old.caller new.caller
  step_caller delivering old new did = stays_delivery no_orders (Some did.0) old.caller new.caller did.1
  step_caller finding_none old new did = stays_delivery no_orders None old.caller new.caller did.0
  step_caller (publishing shown) old new did = stays_counts shown.counts old.caller new.caller did.0.counts.call
  step_caller (keeping shown) old new did = stays_counts shown.counts old.caller new.caller did.0.counts.call
  step_caller turning_on old new did = stays_same old.caller new.caller (ap (λ (s : Steering). s.caller) did.1)

  each_caller : (moves : List Move) (old new : Steering) → MovesEach earlier turns moves old new → StaysSettled old.caller new.caller
  each_caller [] old new same = stays_same old.caller new.caller (ap (λ (s : Steering). s.caller) same)
  each_caller (m ∷ ms) old new did = stays_more old.caller did.0.caller new.caller (step_caller m old did.0 did.1) (each_caller ms did.0 new did.2)

  pub goes_caller : (old new : Steering) → Goes earlier turns old new → StaysSettled old.caller new.caller
  goes_caller old new goes = each_caller goes.moves old new goes.each

-- more was done, where the counts of turns are the same
pub goes_next : {earlier turns earlier_next turns_next : ℕ} (a b c : Steering) → earlier_next ≡ earlier → turns_next ≡ turns → Goes earlier turns a b → Goes earlier_next turns_next b c → Goes earlier turns a c
goes_next {earlier} {turns} {earlier_next} {turns_next} a b c same_earlier same_turns first then =
    goes_then earlier turns a b c first (subst (λ n. Goes n turns b c) same_earlier (subst (λ n. Goes earlier_next n b c) same_turns then))
