-- What is found of a request while a journal is made once more.
use Rattle.std.specs.Prelude.{None, Option, Some, ℕ, ◌≡◌, ◌≢◌}
use Rattle.chan_types.specs.declared.answer.Answer.{Answer}
use Rattle.chan_types.specs.declared.journal.What.{What}
use Rattle.channel_model.specs.Completion.{fate, taken_by}
use Rattle.channel_model.specs.Journal.{past_of}
use Rattle.channel_model.specs.Seen.{Seen}
use Rattle.journal_replay.specs.Replays.{IsMade}

-- the request was taken with this answer; or this entry, which doesn't take it, was made
abbrev pub Passes : ℕ → What → Seen → Seen → Option Answer → Type 0
Passes number what old new (Some answer) = fate old.setting number (past_of old.journal) ≡ Some answer
Passes number what old new None = IsMade what old new × (taken_by what ≢ Some number)
