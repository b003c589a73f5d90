-- How one name is brought to its answer: by the cache, or by a request.
use Rattle.std.specs.Prelude.{Err, IfSome, List, None, Ok, Option, Result, Some, [], true, ℕ, ◌≡◌, ◌⊎◌}
use Rattle.chan_types.specs.declared.answer.Answer.{Answer}
use Rattle.dns_message.specs.declared.message.Question.{Question}
use Rattle.item_list.specs.declared.no_memory.NoMemory.{NoMemory}
use Rattle.net_world.specs.declared.log.WorldCall.{WorldCall}
use Rattle.channel_session.specs.Sitting.{ReadsClock}
use Rattle.channel_table.specs.Calling.{Owned}
use Rattle.query_cache.specs.Cache.{given}
use Rattle.run_end.specs.declared.loop_end.LoopEnd.{LoopEnd}
use Rattle.run_end.specs.declared.loop_end.LoopEnd.TheVariants.{Completed, Stalled, WaitFault}
use Rattle.tool_line.specs.Words.{Text}
use Rattle.acache_tool.specs.Bringing.{AsksFor, Brings, StandsStill}
use Rattle.acache_tool.specs.Growing.{Grows}
use Rattle.acache_tool.specs.Parts.{question_of}
use Rattle.acache_tool.specs.Shown.{ShowsHit, ShowsSent}
use Rattle.acache_tool.specs.declared.asking.Asker.{Asker}
use Rattle.acache_tool.specs.declared.asking.Brought.TheVariants.{Answered, Stalled as NoTurn, WaitFault as NotWaited}
use Rattle.acache_tool.specs.declared.shown.Shown.{Shown}

-- the channel, what is shown, and the network's log where it is told
pub record Scene : Type 0 where
  pub asker : Asker
  pub shown : Shown
  pub log : Option (List WorldCall)

abbrev pub scene_of : Asker → Shown → Option (List WorldCall) → Scene
scene_of asker shown log = record { asker = asker; shown = shown; log = log }

-- the asker with another channel
abbrev pub with_channel : Asker → Owned → Asker
with_channel asker channel = record asker { alone = channel }

-- the clock was read for a name
pub record Reads (at : ℕ) (old : Scene) (log : Option (List WorldCall)) : Type 0 where
  pub reads : ReadsClock (Ok at) old.asker.session old.log log

-- the cache gave its answer, and nothing else was done
pub record IsHit (name : Text) (at : ℕ) (old new : Scene) (log : Option (List WorldCall)) : Type 0 where
  pub question : Question
  pub is_name : question_of name ≡ Some question
  pub shows : ShowsHit true name question at old.shown new.shown
  pub asker : new.asker ≡ old.asker
  pub no_call : new.log ≡ log

-- the cache gave none, or the text isn't a name
abbrev pub IsMiss : Text → ℕ → Shown → Type 0
IsMiss name at shown = IfSome (question_of name) (λ question. given question at shown.cache ≡ None)

-- the name was asked for
pub record IsAsked (name : Text) (at : ℕ) (old : Scene) (channel : Owned) : Type 0 where
  pub missed : IsMiss name at old.shown
  pub asks : AsksFor name (Ok tt) old.asker.alone channel

-- and has its answer, which was shown, and kept at the last turn's reading
pub record IsSent (faults_old faults_new : ℕ) (name : Text) (at : ℕ) (old new : Scene) (log : Option (List WorldCall)) : Type 0 where
  pub channel : Owned
  pub asked : IsAsked name at old channel
  pub answer : Answer
  pub brings : Brings (Ok (Answered answer)) faults_old faults_new (with_channel old.asker channel) new.asker log new.log
  pub shows : ShowsSent name (question_of name) answer new.asker.session.reading old.shown new.shown

-- and a wait failed before that
pub record IsUnwaited (faults_old faults_new : ℕ) (name : Text) (at : ℕ) (old new : Scene) (log : Option (List WorldCall)) : Type 0 where
  pub channel : Owned
  pub asked : IsAsked name at old channel
  pub brings : Brings (Ok NotWaited) faults_old faults_new (with_channel old.asker channel) new.asker log new.log

-- and no turn was left before that
pub record IsStalled (faults_old faults_new : ℕ) (name : Text) (at : ℕ) (old new : Scene) (log : Option (List WorldCall)) : Type 0 where
  pub channel : Owned
  pub asked : IsAsked name at old channel
  pub brings : Brings (Ok NoTurn) faults_old faults_new (with_channel old.asker channel) new.asker log new.log

-- memory was wanting at the clock
pub record IsUnread (old new : Scene) : Type 0 where
  pub asker : new.asker ≡ old.asker
  pub no_call : new.log ≡ old.log

-- or before the name was asked for
pub record IsUnasked (old new : Scene) (log : Option (List WorldCall)) : Type 0 where
  pub grows : Grows [] [] old.asker.alone new.asker.alone
  pub stands : StandsStill old.asker.alone new.asker.alone
  pub asker : new.asker ≡ with_channel old.asker new.asker.alone
  pub no_call : new.log ≡ log

-- or behind that, before its answer or behind it
pub record IsUnanswered (faults_old faults_new : ℕ) (name : Text) (at : ℕ) (old new : Scene) (log : Option (List WorldCall)) : Type 0 where
  pub channel : Owned
  pub asked : IsAsked name at old channel
  pub fault : NoMemory
  pub brings : Brings (Err fault) faults_old faults_new (with_channel old.asker channel) new.asker log new.log
      ⊎ ((answer : Answer) × Brings (Ok (Answered answer)) faults_old faults_new (with_channel old.asker channel) new.asker log new.log)

-- what a request for a name came to, behind the reading of the clock
abbrev pub Sends : Result LoopEnd NoMemory → ℕ → ℕ → Text → ℕ → Scene → Scene → Option (List WorldCall) → Type 0
Sends (Ok Completed) faults_old faults_new name at old new log = IsSent faults_old faults_new name at old new log
Sends (Ok WaitFault) faults_old faults_new name at old new log = IsUnwaited faults_old faults_new name at old new log
Sends (Ok Stalled) faults_old faults_new name at old new log = IsStalled faults_old faults_new name at old new log
Sends (Err fault) faults_old faults_new name at old new log = IsUnasked old new log ⊎ IsUnanswered faults_old faults_new name at old new log

-- what it came to that a name was brought to its answer
abbrev pub Tries : Result LoopEnd NoMemory → ℕ → ℕ → Text → Scene → Scene → Type 0
Tries (Ok Completed) faults_old faults_new name old new =
    (at : ℕ) × (log : Option (List WorldCall)) × Reads at old log × (IsHit name at old new log ⊎ IsSent faults_old faults_new name at old new log)
Tries (Ok WaitFault) faults_old faults_new name old new = (at : ℕ) × (log : Option (List WorldCall)) × Reads at old log × IsUnwaited faults_old faults_new name at old new log
Tries (Ok Stalled) faults_old faults_new name old new = (at : ℕ) × (log : Option (List WorldCall)) × Reads at old log × IsStalled faults_old faults_new name at old new log
Tries (Err fault) faults_old faults_new name old new =
    IsUnread old new
    ⊎ ((at : ℕ) × (log : Option (List WorldCall)) × Reads at old log × (IsUnasked old new log ⊎ IsUnanswered faults_old faults_new name at old new log))
