-- How the channel of a run goes on.
use Rattle.std.specs.List.{list_all}
use Rattle.std.specs.Prelude.{IsTrue, List, Some, [], map, ℕ, ◌++◌, ◌∷◌, ◌≡◌}
use Rattle.chan_types.specs.declared.answer.Answer.{Answer}
use Rattle.chan_types.specs.declared.journal.Entry.{Entry}
use Rattle.channel_model.specs.Completion.{fate, pending, ready, requests, taken}
use Rattle.channel_model.specs.Journal.{Accepted, accepted, past_of}
use Rattle.channel_model.specs.Lawful.{IsLawful}
use Rattle.channel_table.specs.Calling.{Owned}
use Rattle.owner_laws.specs.PlainEntries.{is_plain_entry}

-- the channel's journal went on, by entries that leave it running, which accept these requests and take those
pub record Grows (accepts : List Accepted) (takes : List ℕ) (old new : Owned) : Type 0 where
  pub entries : List Entry
  pub seen : new.seen ≡ old.seen ++ entries
  pub setting : new.setting ≡ old.setting
  pub voice : new.voice ≡ old.voice
  pub lawful : IsLawful old.setting old.seen → IsLawful new.setting new.seen
  pub plain : IsTrue (list_all is_plain_entry entries)
  pub accepts_are : accepted (past_of new.seen) ≡ accepted (past_of old.seen) ++ accepts
  pub takes_are : taken (past_of new.seen) ≡ taken (past_of old.seen) ++ takes

-- no callback's command is being performed, the journal is lawful, and each accepted request was taken
pub record IsIdle (channel : Owned) : Type 0 where
  pub silent : channel.voice ≡ 0
  pub lawful : IsLawful channel.setting channel.seen
  pub all_taken : requests (past_of channel.seen) ≡ taken (past_of channel.seen)

-- the journal is lawful, and each accepted request was taken but for the last one
pub record HasOpen (channel : Owned) : Type 0 where
  pub lawful : IsLawful channel.setting channel.seen
  pub last : ℕ
  pub but_last : requests (past_of channel.seen) ≡ taken (past_of channel.seen) ++ last ∷ []

-- nothing is pending and nothing ready
abbrev pub IsOver : Owned → Type 0
IsOver channel = (pending channel.setting (past_of channel.seen) ≡ []) × (ready channel.setting (past_of channel.seen) ≡ [])

-- the answer is the fate of its request in this channel
abbrev pub IsFate : Owned → Answer → Type 0
IsFate channel answer = fate channel.setting answer.number (past_of channel.seen) ≡ Some answer

-- the answers that were called for are the fates of the requests that were taken, in the same order
abbrev pub AreCalled : Owned → List Answer → Type 0
AreCalled channel calls = map Some calls ≡ map (λ number. fate channel.setting number (past_of channel.seen)) (taken (past_of channel.seen))
