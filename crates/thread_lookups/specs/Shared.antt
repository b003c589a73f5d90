-- What is left of a channel from which four threads asked for hosts' addresses.
use Rattle.std.specs.List.{AllByRecursion}
use Rattle.std.specs.Prelude.{List, Some, [], length, map, ◌++◌, ◌<◌, ◌∷◌, ◌≡◌, ◌⊎◌}
use Rattle.chan_types.specs.declared.journal.Entry.{Entry}
use Rattle.channel_journal.specs.declared.kept.KeptJournal.{KeptJournal}
use Rattle.channel_model.specs.Journal.{accepted, own_entries, past_of}
use Rattle.channel_model.specs.Setting.{Setting}
use Rattle.shared_channel.specs.Finishing.{AnswersAll, LeavesNothing}
use Rattle.shared_channel.specs.declared.finishing.Finished.{Finished}
use Rattle.chan_types.specs.declared.spec.Spec.{Spec}
use Rattle.thread_lookups.specs.Asking.{destroying, free_use, quiet_ask, uses_in}

-- the entries of a finished channel's journal
abbrev pub journal_of : Finished KeptJournal → List Entry
journal_of finished = finished.journal.entries.items

-- what the three threads made that ask, thread by thread
abbrev pub made_by_askers : List Entry → List Entry
made_by_askers journal = own_entries 1 journal ++ own_entries 2 journal ++ own_entries 3 journal

-- four threads shared a channel with this setting: three of them asked these requests, the other one ran it, and this is left of it
pub record AreAnswered (setting : Setting) (specs : List Spec) (finished : Finished KeptJournal) : Type 0 where
  -- one journal orders what they did: it is lawful, and nothing is pending or ready in it
  pub nothing : LeavesNothing setting (journal_of finished)
  -- these four threads made all of it
  pub makers : AllByRecursion (λ entry. entry.seat < 4) (journal_of finished)
  -- what three of them made are these requests, each once and in order, with callbacks that command nothing; and nothing else
  pub asked : map free_use (made_by_askers (journal_of finished)) ≡ map (λ spec. Some (quiet_ask spec)) specs
  -- the other one took, made turns and did what callbacks commanded; beside that it did nothing but destroy the channel, once at most
  pub ran : (uses_in (own_entries 0 (journal_of finished)) ≡ []) ⊎ (uses_in (own_entries 0 (journal_of finished)) ≡ destroying ∷ [])
  -- each accepted request has exactly one answer, its fate
  pub accepted_are : finished.accepted ≡ length (accepted (past_of (journal_of finished)))
  pub answers : AnswersAll setting (journal_of finished) finished.accepted finished.calls
