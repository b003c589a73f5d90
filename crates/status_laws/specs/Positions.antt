-- The positions of a journal's entries. A position is told by its past; what stands behind it is newer.
use Rattle.std.specs.Prelude.{IsTrue, List, ℕ, ◌++◌, ◌∷◌, ◌≡◌, ◌≤◌, None, Some}
use Rattle.chan_types.specs.declared.answer.Answer.{Answer}
use Rattle.chan_types.specs.declared.journal.What.{What}
use Rattle.channel_model.specs.Completion.{completed_by, fate, occurrences, pending}
use Rattle.channel_model.specs.Flight.{Attempt, closes, flight}
use Rattle.channel_model.specs.Journal.{Past}
use Rattle.channel_model.specs.LegEnd.{LegEnd, leg_end}
use Rattle.channel_model.specs.Legs.{Leg}
use Rattle.channel_model.specs.Setting.{Setting}

-- the entry stands in the past at this position: behind what happened before it
pub record StandsAt (what : What) (before past : Past) : Type 0 where
  pub newer : List What
  pub parts : past ≡ newer ++ what ∷ before

module _ (setting : Setting) where
  -- the request is pending at the position
  abbrev pub IsPending : ℕ → Past → Type 0
  IsPending request before = 1 ≤ occurrences request (pending setting before)

  -- the entry completes the request with this answer there: the request had none before, and the entry gives it
  pub record Completes (request : ℕ) (answer : Answer) (what : What) (before : Past) : Type 0 where
    pub open' : fate setting request before ≡ None
    pub given : completed_by setting request what before ≡ Some answer

  -- the entry ends the leg so there: the leg was in flight and hadn't ended, the entry closed its attempt, and behind it the leg has ended
  pub record Ends (leg : Leg) (end : LegEnd) (what : What) (before : Past) : Type 0 where
    pub attempt : Attempt
    pub flies : flight setting leg before ≡ Some attempt
    pub unended : leg_end setting leg before ≡ None
    pub closed : IsTrue (closes setting attempt what before)
    pub ended : leg_end setting leg (what ∷ before) ≡ Some end
