-- What it says of an entry that it is made once more.
use Rattle.std.specs.Bool.{then_some}
use Rattle.std.specs.Prelude.{Bool, Decides, IsTrue, false, ℕ, ◌&&◌, ◌==◌, ◌∷◌, ◌≡◌}
use Rattle.chan_types.specs.declared.journal.What.{What}
use Rattle.channel_model.specs.Journal.{past_of}
use Rattle.channel_model.specs.Lawful.{IsAllowed, IsLawful}
use Rattle.channel_model.specs.Seen.{Seen}
use Rattle.channel_model.specs.declared.answers.Begun.{Begun}
use Rattle.channel_model.specs.declared.answers.Begun.TheVariants.{Idle, NoId, Started}
use Rattle.chan_types.specs.declared.script.Script.{Script}
use Rattle.chan_types.specs.declared.journal.What.TheVariants.{Start}
use Rattle.journal_replay.specs.declared.recorded.Recorded.{Recorded}
use Rattle.journal_replay.specs.declared.steps.Attempt.{Attempt}

-- the script of a token
abbrev pub plan_of : Recorded → Script
plan_of recorded = recorded.script

-- this was made once more behind what happened
pub record IsMade (what : What) (old new : Seen) : Type 0 where
  pub setting : new.setting ≡ old.setting
  pub past : past_of new.journal ≡ what ∷ past_of old.journal
  pub lawful : IsLawful new.setting new.journal

-- whether this is allowed where a journal ends; where it is, it was made
pub record Follows (what : What) (old new : Seen) (is_allowed : Bool) : Type 0 where
  pub decides : Decides is_allowed (IsAllowed old.setting (past_of old.journal) what)
  pub made : IsTrue is_allowed → IsMade what old new

-- the entry that says this of an attempt
abbrev pub start_of : Attempt → What
start_of a = Start a.number a.leg a.server a.link a.id a.mix a.moment

-- the attempt that was begun is this one, where these bits were handed over for the case of its letters, and are drawn or aren't
abbrev pub IsBegun : Attempt → Bool → ℕ → Begun → Bool → Type 0
IsBegun attempt draws bits (Started number leg server address link id message) is =
    Decides is (record { number = number; leg = leg; server = server; link = link; id = id; mix = then_some (draws && (link == 0)) bits; moment = attempt.moment } ≡ attempt)
IsBegun attempt draws bits Idle is = is ≡ false
IsBegun attempt draws bits NoId is = is ≡ false
