-- How a run comes to its promise: by its words, and by the resolv.conf that it reads.
use Rattle.std.specs.Prelude.{Bool, List, Result, IfOk, Ok, Err, [], false, true, ℕ, ◌∷◌, ◌≡◌}
use Rattle.std.specs.String.{string_bytes}
use Rattle.net_world.specs.Cause.{Rose}
use Rattle.net_world.specs.Files.{IsReadOf}
use Rattle.net_world.specs.declared.answers.FileRead.{FileRead}
use Rattle.net_world.specs.declared.answers.FileRead.TheVariants.{Failed as NotRead}
use Rattle.resolv_options.specs.Values.{OptionValues}
use Rattle.channel_model.specs.Setting.{Setting}
use Rattle.chan_types.specs.declared.spec.Spec.{Spec}
use Rattle.tool_line.specs.Adig.{AdigAsks}
use Rattle.tool_line.specs.Ending.{text_of}
use Rattle.tool_line.specs.Files.{options_set}
use Rattle.tool_line.specs.Words.{Text}
use Rattle.tool_line.specs.declared.adig.AdigAsk.{AdigAsk}
use Rattle.tool_line.specs.declared.ending.Exit.{Exit}
use Rattle.tool_line.specs.declared.ending.Exit.TheVariants.{FileFault, Usage}
use Rattle.tool_line.specs.declared.ending.Tool.TheVariants.{Adig}
use Rattle.tool_line.specs.declared.files.FileFault.{FileFault as FaultOfFile}
use Rattle.tool_line.specs.Outside.{FilesTold, Outside}
use Rattle.tool_line.specs.Put.{IsPut}
use Rattle.tool_line.specs.Read.{HasReadAt, read_call}
use Rattle.net_world.specs.Logs.{LogGets}
use Rattle.adig_tool.specs.Answered.{AreAnswered}
use Rattle.adig_tool.specs.Promise.{Promise}
use Rattle.run_end.specs.declared.ended.Ended.{Ended as OwnEnd}
use Rattle.adig_tool.specs.Cookies.{AreMadeOf, around, own_end}
use Rattle.adig_tool.specs.declared.ended.Ended.{Ended}

-- the words ask nothing
abbrev pub AreRefused : List Text → Type 0
AreRefused words = (ask : AdigAsk) → AdigAsks words ask → ⊥

-- this holds of what the words ask, if they ask something
abbrev pub ForWords : List Text → (AdigAsk → Type 0) → Type 0
ForWords words holds = (ask : AdigAsk) → AdigAsks words ask → holds ask

-- the setting of a channel with these options: it has an empty hosts file
abbrev pub setting_with : OptionValues → Setting
setting_with options = record { options = options; hosts = [] }

-- a run that came to this end before it had a channel: nothing is in its journal, nothing of the network was called, and it put the line of that end
pub record EndsEarly (end : Exit) (ended : OwnEnd) (before after : Outside) : Type 0 where
  pub no_journal : ended.journal ≡ []
  pub no_calls : ended.calls ≡ []
  pub no_traffic : after.network ≡ before.network
  pub put : IsPut (text_of Adig end) end ended.status before.output after.output

-- with the options of the file that was read the run keeps its promise, or the file can't be read
abbrev pub Comes : Spec → Bool → ℕ → Result OptionValues FaultOfFile → OwnEnd → Outside → Outside → Type 0
Comes spec as_book turns (Ok options) ended before after = Promise spec as_book (setting_with options) turns ended before after
Comes spec as_book turns (Err fault) ended before after = EndsEarly FileFault ended before after

-- a run for what is asked, over this network
pub record IsRunFor (ask : AdigAsk) (turns : ℕ) (ended : OwnEnd) (files_before files_after : FilesTold) (before after : Outside) : Type 0 where
  -- resolv.conf as it was read: where files are told, its whole content of at most 65,536 bytes, or that there is none, or that it has more.
  pub file : FileRead
  pub read : IsReadOf files_before.files (string_bytes ask.resolv) 65536 file
  -- That is the run's one read; where memory was wanting at it, nothing was read, and the exit status is 5.
  pub reads : HasReadAt ended.status (read_call (string_bytes ask.resolv) 65536 file ∷ []) files_before.reads files_after.reads
  -- A read fails only where the count of failures rose in this run.
  pub read_fault : file ≡ NotRead → Rose files_before.faults files_after.faults
  -- The channel's options are those of the file, and what the words set in place of them.
  pub comes : Comes ask.spec ask.journal turns (options_set ask.settings file) ended before after
  -- Where the network tells its calls, and they begin no TCP link, an answer with a message is a reply to a query of this run, for a question of what is asked under these options.
  pub answered : IfOk (options_set ask.settings file) (λ options. LogGets (AreAnswered (setting_with options) ask.spec ended.status ended.calls) before.network.log after.network.log)

-- a run for what is asked, over a network with cookies around the one that was handed in (RFC 7873)
pub record IsRunWithCookies (ask : AdigAsk) (turns : ℕ) (ended : Ended) (files_before files_after : FilesTold) (before after : Outside) : Type 0 where
  -- Where the network that was handed in tells its calls, `outer` has those of the one with cookies, none before the run: servers, turns, waits, what the journal notes and what answers what are those of these calls. A wait that fails is one of the network that was handed in.
  pub run : IsRunFor ask turns (own_end ended) files_before files_after (around [] before) (around ended.outer after)
  -- What that network tells behind the run is what it told before, and then what the calls of `outer` come to: queries with their cookies, the words of the cookies, replies that were dropped, queries that were sent again.
  pub made : AreMadeOf ended.outer before.network after.network

-- a run for what is asked, with cookies or without
abbrev pub IsRunBy : Bool → AdigAsk → ℕ → Ended → FilesTold → FilesTold → Outside → Outside → Type 0
IsRunBy false ask turns ended files_before files_after before after = IsRunFor ask turns (own_end ended) files_before files_after before after × (ended.outer ≡ [])
IsRunBy true ask turns ended files_before files_after before after = IsRunWithCookies ask turns ended files_before files_after before after

-- a run for what is asked: with cookies where the words have it so, and else over the network that was handed in, with no other
abbrev pub IsRun : AdigAsk → ℕ → Ended → FilesTold → FilesTold → Outside → Outside → Type 0
IsRun ask turns ended files_before files_after before after = IsRunBy ask.cookie ask turns ended files_before files_after before after

-- a run whose words ask nothing: it put the line of that end, and called no network
abbrev pub IsUnasked : Ended → Outside → Outside → Type 0
IsUnasked ended before after = EndsEarly Usage (own_end ended) before after × (ended.outer ≡ [])
