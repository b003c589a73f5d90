-- A run between two calls of its session.
use Rattle.std.proofs.Common.{Bool, List, ℕ, false, inl, inr, refl, true}
use Rattle.std.specs.Prelude.{IsTrue, Option}
use Rattle.channel_model.specs.Course.{has_no_turn}
use Rattle.channel_model.specs.Journal.{own_entries}
use Rattle.channel_model.specs.Known.{GoesOn, Known}
use Rattle.event_runner.proofs.Theorems.{MayStand, runs_behind, told_as}
use Rattle.event_runner.specs.State.{IsTurnOwner}
use Rattle.event_runner.specs.UnderWay.{IsUnderWay}
use Rattle.net_world.specs.declared.log.WorldCall.{WorldCall}
use Rattle.channel_session.proofs.BegunLemmas.{begun_behind}
use Rattle.channel_session.specs.Sitting.{IsCount, Sitting, StandsBehind, longest_pause, moment_of, reach_of}

-- entries of the desk's that no turn makes leave it where it stands
pub stands_between : (a b : Known) (goes : GoesOn a b) → IsTrue (has_no_turn (own_entries a.seat goes.since)) → (sitting : Sitting) (log began : Option (List WorldCall)) (turns asides : ℕ) →
    StandsBehind turns asides began (moment_of a sitting log) → StandsBehind turns asides began (moment_of b sitting log)
stands_between a b goes none sitting log began turns asides here = record {
  count = here.count;
  reading = here.reading;
  begun = begun_behind longest_pause turns a b goes began log here.begun;
  runs = runs_behind longest_pause turns asides began log (reach_of sitting.behind_turn) a b sitting.running goes none (may sitting.behind_turn here.count) here.runs;
}
  where
    may : (behind : Bool) → IsCount behind turns → MayStand turns (reach_of behind) a.seat goes.since
    may true count = inr (inl refl)
    may false count = inl count

-- on whose command the desk calls is nothing to it
pub stands_voice : (a : Known) (voice : ℕ) (sitting : Sitting) (log began : Option (List WorldCall)) (turns asides : ℕ) →
    StandsBehind turns asides began (moment_of a sitting log) → StandsBehind turns asides began (moment_of (record a { voice = voice }) sitting log)
stands_voice a voice sitting log began turns asides here =
    let b : Known = record a { voice = voice } in record {
      count = here.count;
      reading = here.reading;
      begun = here.begun;
      runs = told_as (λ calls. IsTurnOwner a → IsUnderWay longest_pause turns asides (reach_of sitting.behind_turn) a sitting.running calls)
          (λ calls. IsTurnOwner b → IsUnderWay longest_pause turns asides (reach_of sitting.behind_turn) b sitting.running calls)
          (λ calls way owner.
          let under = way owner in record {
            course = under.course;
            come = under.come;
            reading = under.reading;
            holds = record { fits = under.holds.fits; mixes = under.holds.mixes; told = under.holds.told };
          })
          began log here.runs;
    }
