-- How one name is brought to its answer, from its Accept on.
use Rattle.std.specs.Prelude.{Err, List, Ok, Option, Result, [], length, ℕ, ◌++◌, ◌+◌, ◌∷◌, ◌≡◌, ◌≢◌, ◌⊎◌}
use Rattle.chan_types.specs.declared.answer.Answer.{Answer}
use Rattle.item_list.specs.declared.no_memory.NoMemory.{NoMemory}
use Rattle.net_world.specs.Cause.{Rose}
use Rattle.net_world.specs.declared.log.WorldCall.{WorldCall}
use Rattle.channel_model.specs.Completion.{pending}
use Rattle.channel_model.specs.Journal.{accepted, past_of}
use Rattle.channel_session.specs.Advancing.{LogGrows}
use Rattle.channel_session.specs.Beginning.{BegunSince}
use Rattle.channel_session.specs.Progressing.{EndsWithWait}
use Rattle.channel_session.specs.Sitting.{Sitting, StandsBehind, moment_of}
use Rattle.channel_table.specs.Calling.{Owned, known_by_owner}
use Rattle.event_runner.specs.UnderWay.{RanSince, RunsSince, rested}
use Rattle.tool_line.specs.Words.{Text}
use Rattle.owner_laws.specs.Sessions.{longest_slice}
use Rattle.acache_tool.specs.Growing.{Grows, IsFate}
use Rattle.acache_tool.specs.Parts.{asks_for, request_for}
use Rattle.acache_tool.specs.declared.asking.Asker.{Asker}
use Rattle.acache_tool.specs.declared.asking.Brought.{Brought}
use Rattle.acache_tool.specs.declared.asking.Brought.TheVariants.{Answered, Stalled, WaitFault}

-- a run that stands with the one channel stands so with the other
abbrev pub StandsStill : Owned → Owned → Type 0
StandsStill old new =
    (session : Sitting) (log began : Option (List WorldCall)) (turns asides : ℕ) → StandsBehind turns asides began (moment_of (known_by_owner old) session log) →
    StandsBehind turns asides began (moment_of (known_by_owner new) session log)

-- a name was asked for: its Accept is the one entry that the channel's journal got; for want of memory it got none
abbrev pub AsksFor : Text → Result (Unit {0}) NoMemory → Owned → Owned → Type 0
AsksFor name (Ok asked) old new =
    Grows (request_for (length (accepted (past_of old.seen)) + 1) name ∷ []) [] old new × (new.seen ≡ old.seen ++ asks_for (length (accepted (past_of old.seen)) + 1) name ∷ []) × StandsStill old new
AsksFor name (Err fault) old new = Grows [] [] old new × StandsStill old new

-- a run that stood at the one moment stands at the other, behind so many turns more
abbrev pub StandsOn : ℕ → Asker → Asker → Option (List WorldCall) → Option (List WorldCall) → Type 0
StandsOn made old new log_old log_new =
    (began : Option (List WorldCall)) (turns asides : ℕ) → StandsBehind turns asides began (moment_of (known_by_owner old.alone) old.session log_old) →
    StandsBehind (turns + made) asides began (moment_of (known_by_owner new.alone) new.session log_new)

-- or it waited behind them
abbrev pub RestsOn : ℕ → Asker → Asker → Option (List WorldCall) → Option (List WorldCall) → Type 0
RestsOn made old new log_old log_new =
    (began : Option (List WorldCall)) (turns asides : ℕ) → StandsBehind turns asides began (moment_of (known_by_owner old.alone) old.session log_old) →
    RunsSince longest_slice (turns + made) asides rested (known_by_owner new.alone) new.session.running began log_new
    × BegunSince longest_slice (turns + made) (known_by_owner new.alone) began log_new

-- or it may have been cut short, at the latest in so many turns more
abbrev pub RanOn : ℕ → Asker → Asker → Option (List WorldCall) → Option (List WorldCall) → Type 0
RanOn most old new log_old log_new =
    (began : Option (List WorldCall)) (turns asides : ℕ) → StandsBehind turns asides began (moment_of (known_by_owner old.alone) old.session log_old) →
    RanSince longest_slice (turns + most) asides (known_by_owner new.alone) began log_new

-- a request was taken, and called for with its fate
pub record Answers (answer : Answer) (old new : Asker) : Type 0 where
  pub grows : Grows [] (answer.number ∷ []) old.alone new.alone
  pub its_fate : IsFate new.alone answer
  pub called : new.calls ≡ old.calls ++ answer ∷ []

-- none was
pub record AnswersNone (old new : Asker) : Type 0 where
  pub grows : Grows [] [] old.alone new.alone
  pub called : new.calls ≡ old.calls

-- memory was wanting: no request was taken, or one was and called for; and the run may have been cut short
abbrev pub CutShort : Asker → Asker → Option (List WorldCall) → Option (List WorldCall) → Type 0
CutShort old new log_old log_new = (AnswersNone old new ⊎ ((answer : Answer) × Answers answer old new)) × RanOn old.left old new log_old log_new

-- what bringing the channel to its next answer came to: there is one; a wait failed, and is the last call; or no turn is left, and a request is pending. For want of memory there may be one, too
abbrev pub Brings : Result Brought NoMemory → ℕ → ℕ → Asker → Asker → Option (List WorldCall) → Option (List WorldCall) → Type 0
Brings (Ok (Answered answer)) faults_old faults_new old new log_old log_new =
    Answers answer old new × LogGrows log_old log_new × ((made : ℕ) × (made + new.left ≡ old.left) × StandsOn made old new log_old log_new)
Brings (Ok WaitFault) faults_old faults_new old new log_old log_new =
    AnswersNone old new × Rose faults_old faults_new × EndsWithWait log_old log_new × ((made : ℕ) × (made + new.left ≡ old.left) × RestsOn made old new log_old log_new)
Brings (Ok Stalled) faults_old faults_new old new log_old log_new =
    AnswersNone old new × (new.left ≡ 0) × (pending new.alone.setting (past_of new.alone.seen) ≢ []) × LogGrows log_old log_new × StandsOn old.left old new log_old log_new
Brings (Err fault) faults_old faults_new old new log_old log_new = CutShort old new log_old log_new
