-- How a run comes to its promise: by its words, and by the files that it reads.
use Rattle.std.specs.Prelude.{Err, List, None, Ok, Option, Result, Some, [], length, ℕ, ◌≡◌, ◌≢◌, ◌≤◌}
use Rattle.std.specs.String.{string_bytes}
use Rattle.chan_types.specs.Plans.{Plan}
use Rattle.chan_types.specs.declared.spec.Spec.{Spec}
use Rattle.hosts_file.specs.declared.hosts.HostLine.{HostLine}
use Rattle.net_world.specs.declared.read_call.ReadCall.{ReadCall}
use Rattle.resolv_options.specs.Values.{OptionValues}
use Rattle.tool_line.specs.Ahost.{AhostAsks}
use Rattle.tool_line.specs.Ending.{text_of}
use Rattle.tool_line.specs.Outside.{FilesTold, Outside}
use Rattle.tool_line.specs.Put.{IsPut}
use Rattle.tool_line.specs.Read.{HasRead, HasReadAt}
use Rattle.tool_line.specs.Words.{Text}
use Rattle.tool_line.specs.declared.ahost.AhostAsk.{AhostAsk}
use Rattle.tool_line.specs.declared.ahost.Load.{Load}
use Rattle.tool_line.specs.declared.ending.Exit.{Exit}
use Rattle.tool_line.specs.declared.ending.Exit.TheVariants.{FileFault}
use Rattle.tool_line.specs.declared.ending.Tool.TheVariants.{Ahost}
use Rattle.tool_line.specs.declared.files.FileFault.{FileFault as FaultOfFile}
use Rattle.ahost_tool.specs.Asked.{Asked, asked_of}
use Rattle.ahost_tool.specs.Promise.{Promise}
use Rattle.ahost_tool.specs.Page.{report_for}
use Rattle.ahost_tool.specs.Setting.{IsSettingOf, hosts_bytes}
use Rattle.run_end.specs.declared.ended.Ended.{Ended}

-- how many names are asked for: those of a load, or those of the words
abbrev pub count_names : Option Load → List Spec → ℕ
count_names None specs = length specs
count_names (Some load) specs = load.names

-- what is asked is asked of one thread, for names, each of which has one of so many bodies
pub record IsServed (bodies : ℕ) (ask : AhostAsk) : Type 0 where
  pub one_thread : ask.workers ≡ 0
  pub enough : count_names ask.load ask.specs ≤ bodies

-- the words ask nothing that is served
abbrev pub AreRefused : List Text → ℕ → Type 0
AreRefused words bodies = (ask : AhostAsk) → AhostAsks words ask → IsServed bodies ask → ⊥

-- this holds of what the words ask, if they ask something that is served
abbrev pub ForWords : List Text → ℕ → (AhostAsk → Type 0) → Type 0
ForWords words bodies holds = (ask : AhostAsk) → AhostAsks words ask → IsServed bodies ask → holds ask

-- a run that came to this end before it had a channel: nothing is in its journal, nothing of the network was called, and it put the line of that end
pub record EndsEarly (end : Exit) (ended : Ended) (before after : Outside) : Type 0 where
  pub no_journal : ended.journal ≡ []
  pub no_calls : ended.calls ≡ []
  pub no_traffic : after.network ≡ before.network
  pub put : IsPut (text_of Ahost end) end ended.status before.output after.output

-- with the setting that was read the run keeps its promise, or a file can't be read
abbrev pub Comes : Asked → ℕ → Result (OptionValues × List HostLine) FaultOfFile → Ended → Outside → Outside → Type 0
Comes asked turns (Ok setting) ended before after = Promise asked (record { options = setting.0; hosts = setting.1 }) turns ended before after
Comes asked turns (Err fault) ended before after = EndsEarly FileFault ended before after

-- a run for names that the words ask for, with callbacks of these scripts
pub record IsRunFor (ask : AhostAsk) (plans : List Plan) (turns : ℕ) (ended : Ended) (files_before files_after : FilesTold) (before after : Outside) : Type 0 where
  -- What the files say, and what the words set in place of it: resolv.conf is read, and behind it the hosts file, unless resolv.conf has a fault.
  pub setting : Result (OptionValues × List HostLine) FaultOfFile
  pub reads : List ReadCall
  pub read : IsSettingOf (string_bytes ask.resolv) (string_bytes ask.hosts) ask.settings setting reads files_before files_after
  -- These reads were made, once each, in this order and with these limits, and no other; where memory was wanting, with exit status 5, the first of them, or none. A run whose channel has a journal has made all of them.
  pub made : HasReadAt ended.status reads files_before.reads files_after.reads
  pub made_all : ended.journal ≢ [] → HasRead reads files_before.reads files_after.reads
  -- It puts its page, or where the words ask for it its book, with the bytes of the hosts file that were read.
  pub comes : Comes (asked_of (report_for ask.journal (hosts_bytes reads)) ask.specs plans ask.orders ask.later) turns setting ended before after
