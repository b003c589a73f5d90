-- What is left behind the names of a run: those that were brought to their answers, and one that wasn't, if there is one.
use Rattle.std.specs.List.{AllByRecursion, list_all}
use Rattle.std.specs.Prelude.{Err, IfSome, IsTrue, List, None, Ok, Option, Result, Some, [], map, length, true, ℕ, ◌++◌, ◌+◌, ◌∷◌, ◌≡◌, ◌≢◌, ◌≤◌, ◌⊎◌, ◌↔◌}
use mathlib.Core.List.{IsPrefix}
use Rattle.chan_types.specs.declared.answer.Answer.{Answer}
use Rattle.chan_types.specs.declared.status.Status.TheVariants.{Success}
use Rattle.item_list.specs.declared.no_memory.NoMemory.{NoMemory}
use Rattle.net_world.specs.Cause.{Rose}
use Rattle.net_world.specs.Logs.{LogGets}
use Rattle.net_world.specs.declared.log.WorldCall.{WorldCall}
use Rattle.channel_model.specs.Completion.{pending, taken}
use Rattle.channel_model.specs.Journal.{Accepted, accepted, past_of}
use Rattle.channel_model.specs.Lawful.{IsLawful}
use Rattle.channel_model.specs.Setting.{Setting}
use Rattle.channel_session.specs.Beginning.{BegunSince}
use Rattle.channel_session.specs.Progressing.{EndsWithWait}
use Rattle.channel_session.specs.Sitting.{StandsBehind, moment_of}
use Rattle.channel_table.specs.Calling.{Owned, known_by_owner}
use Rattle.event_runner.specs.UnderWay.{RanSince, RunsSince, rested}
use Rattle.query_cache.specs.Recency.{LeadTo}
use Rattle.run_end.specs.declared.loop_end.LoopEnd.{LoopEnd}
use Rattle.run_end.specs.declared.loop_end.LoopEnd.TheVariants.{Completed, Stalled, WaitFault}
use Rattle.tool_line.specs.Words.{Text}
use Rattle.owner_laws.specs.Sessions.{longest_slice}
use Rattle.acache_tool.specs.Growing.{AreCalled}
use Rattle.acache_tool.specs.Naming.{Scene}
use Rattle.acache_tool.specs.Parts.{AreRight, MayAsk, Open, Part, answers_of, cache_calls, journal_of, most_seconds, names_of, open_names, open_requests, page, requests_of}
use Rattle.acache_tool.specs.Told.{AreTold, AreToldThen}
use Rattle.owner_laws.specs.PlainEntries.{is_plain_entry}

-- the numbers of these requests
abbrev pub numbers_of : List Accepted → List ℕ
numbers_of requests = map (λ request. request.number) requests

-- all answers of these names are good ones
abbrev pub AreGoodParts : List Part → Type 0
AreGoodParts parts = AllByRecursion (λ part. part.answer.status ≡ Success) parts

-- the channel of a run, which was asked for these names, and perhaps for one more, and what was called for
pub record Leaves (room : ℕ) (setting : Setting) (parts : List Part) (last : Option Open) (channel : Owned) (calls : List Answer) : Type 0 where
  pub right : AreRight room parts
  pub missed : IfSome last (λ o. MayAsk room (cache_calls parts) o.at o.name)
  pub setting_is : channel.setting ≡ setting
  pub voice : channel.voice ≡ 0
  pub lawful : IsLawful channel.setting channel.seen
  pub plain : IsTrue (list_all is_plain_entry channel.seen)
  -- the entries of those that were brought to their answers stand first, one name's behind the other's
  pub named : IsPrefix (journal_of parts) channel.seen
  pub accepted_are : accepted (past_of channel.seen) ≡ requests_of parts ++ open_requests parts last
  -- those that were brought to their answers were taken, and perhaps the last one
  pub taken_are : (taken (past_of channel.seen) ≡ numbers_of (requests_of parts)) ⊎ (taken (past_of channel.seen) ≡ numbers_of (requests_of parts ++ open_requests parts last))
  pub called : AreCalled channel calls
  pub answers_are : IsPrefix (answers_of parts) calls

-- the run stands behind these names, which were all brought to their answers
pub record IsAt (room : ℕ) (setting : Setting) (turns : ℕ) (parts : List Part) (began : Option (List WorldCall)) (scene : Scene) : Type 0 where
  pub leaves : Leaves room setting parts None scene.asker.alone scene.asker.calls
  pub taken_are : taken (past_of scene.asker.alone.seen) ≡ numbers_of (requests_of parts)
  pub calls_are : scene.asker.calls ≡ answers_of parts
  pub journal_is : scene.asker.alone.seen ≡ journal_of parts
  -- the cache, and what is shown
  pub kept : LeadTo room most_seconds (cache_calls parts) scene.shown.cache
  pub text_is : scene.shown.text.items ≡ page parts
  pub good_is : (scene.shown.good ≡ true) ↔ AreGoodParts parts
  -- it made so many turns
  pub made : ℕ
  pub count : made + scene.asker.left ≡ turns
  pub behind : StandsBehind made (length parts) began (moment_of (known_by_owner scene.asker.alone) scene.asker.session scene.log)
  pub told : LogGets (AreTold setting parts) began scene.log

-- a wait failed for this name behind these, and is the last call; so many turns were made before it
pub record EndsUnwaited (setting : Setting) (turns : ℕ) (parts : List Part) (name : Open) (began : Option (List WorldCall)) (scene : Scene) : Type 0 where
  pub made : ℕ
  pub count : made + scene.asker.left ≡ turns
  pub runs : RunsSince longest_slice made (length parts + 1) rested (known_by_owner scene.asker.alone) scene.asker.session.running began scene.log
  pub begun : BegunSince longest_slice made (known_by_owner scene.asker.alone) began scene.log
  pub last : EndsWithWait began scene.log
  pub told : LogGets (AreToldThen setting parts name) began scene.log

-- all turns were made, and the request for this name behind these is pending
pub record EndsStalled (setting : Setting) (turns : ℕ) (parts : List Part) (name : Open) (began : Option (List WorldCall)) (scene : Scene) : Type 0 where
  pub behind : StandsBehind turns (length parts + 1) began (moment_of (known_by_owner scene.asker.alone) scene.asker.session scene.log)
  pub told : LogGets (AreToldThen setting parts name) began scene.log
  pub some_pending : pending scene.asker.alone.setting (past_of scene.asker.alone.seen) ≢ []

-- memory was wanting: journal and calls may have been cut short
pub record EndsCut (turns most : ℕ) (began : Option (List WorldCall)) (scene : Scene) : Type 0 where
  pub asides : ℕ
  pub few : asides ≤ most
  pub ran : RanSince longest_slice turns asides (known_by_owner scene.asker.alone) began scene.log

-- what all names came to: each has its answer; or the first of them, and of one more the wait failed, or no turn was left for it; or memory was wanting
abbrev pub AsksAll : Result LoopEnd NoMemory → ℕ → Setting → ℕ → List Text → Option (List WorldCall) → ℕ → ℕ → Scene → Type 0
AsksAll (Ok Completed) room setting turns names began faults_old faults_new scene =
    (parts : List Part) × (names_of parts ≡ names) × IsAt room setting turns parts began scene
AsksAll (Ok WaitFault) room setting turns names began faults_old faults_new scene =
    (parts : List Part) × (last : Open) × IsPrefix (names_of parts ++ last.name ∷ []) names × Leaves room setting parts (Some last) scene.asker.alone scene.asker.calls
    × EndsUnwaited setting turns parts last began scene × Rose faults_old faults_new
AsksAll (Ok Stalled) room setting turns names began faults_old faults_new scene =
    (parts : List Part) × (last : Open) × IsPrefix (names_of parts ++ last.name ∷ []) names × Leaves room setting parts (Some last) scene.asker.alone scene.asker.calls
    × EndsStalled setting turns parts last began scene
AsksAll (Err fault) room setting turns names began faults_old faults_new scene =
    (parts : List Part) × (last : Option Open) × IsPrefix (names_of parts ++ open_names last) names × Leaves room setting parts last scene.asker.alone scene.asker.calls
    × EndsCut turns (length parts + 1) began scene
