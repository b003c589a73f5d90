-- How a run with workers comes to its promise: by its words, and by the files that it reads.
use Rattle.std.specs.Prelude.{Err, List, Ok, Result, [], ℕ, ◌≢◌, ◌≤◌}
use Rattle.std.specs.String.{string_bytes}
use Rattle.chan_types.specs.Plans.{Plan}
use Rattle.hosts_file.specs.declared.hosts.HostLine.{HostLine}
use Rattle.net_world.specs.declared.read_call.ReadCall.{ReadCall}
use Rattle.resolv_options.specs.Values.{OptionValues}
use Rattle.run_end.specs.declared.ended.Ended.{Ended}
use Rattle.tool_line.specs.Ahost.{AhostAsks}
use Rattle.tool_line.specs.Outside.{FilesTold, Outside}
use Rattle.tool_line.specs.Read.{HasRead, HasReadAt}
use Rattle.tool_line.specs.Words.{Text}
use Rattle.tool_line.specs.declared.ahost.AhostAsk.{AhostAsk}
use Rattle.tool_line.specs.declared.ending.Exit.TheVariants.{FileFault}
use Rattle.tool_line.specs.declared.files.FileFault.{FileFault as FaultOfFile}
use Rattle.ahost_tool.specs.Asked.{Asked, asked_of}
use Rattle.ahost_tool.specs.Page.{report_for}
use Rattle.ahost_tool.specs.Running.{EndsEarly, count_names}
use Rattle.ahost_tool.specs.Setting.{IsSettingOf, hosts_bytes}
use Rattle.ahost_workers.specs.Promise.{PromiseWith}

-- what is asked is asked of workers, for names, each of which has one of so many bodies
pub record IsServedWith (bodies : ℕ) (ask : AhostAsk) : Type 0 where
  pub several_threads : ask.workers ≢ 0
  pub enough : count_names ask.load ask.specs ≤ bodies

-- the words ask nothing that is served with workers
abbrev pub AreRefusedWith : List Text → ℕ → Type 0
AreRefusedWith words bodies = (ask : AhostAsk) → AhostAsks words ask → IsServedWith bodies ask → ⊥

-- this holds of what the words ask, if they ask something that is served with workers
abbrev pub ForWorkers : List Text → ℕ → (AhostAsk → Type 0) → Type 0
ForWorkers words bodies holds = (ask : AhostAsk) → AhostAsks words ask → IsServedWith bodies ask → holds ask

-- with the setting that was read the run keeps its promise, or a file can't be read
abbrev pub ComesWith : ℕ → Asked → ℕ → Result (OptionValues × List HostLine) FaultOfFile → Ended → Outside → Outside → Type 0
ComesWith workers asked turns (Ok setting) ended before after = PromiseWith workers asked (record { options = setting.0; hosts = setting.1 }) turns ended before after
ComesWith workers asked turns (Err fault) ended before after = EndsEarly FileFault ended before after

-- a run with workers for names that the words ask for, with callbacks of these scripts
pub record IsRunWith (ask : AhostAsk) (plans : List Plan) (turns : ℕ) (ended : Ended) (files_before files_after : FilesTold) (before after : Outside) : Type 0 where
  -- What the files say, and what the words set in place of it: resolv.conf is read, and behind it the hosts file, unless resolv.conf has a fault.
  pub setting : Result (OptionValues × List HostLine) FaultOfFile
  pub reads : List ReadCall
  pub read : IsSettingOf (string_bytes ask.resolv) (string_bytes ask.hosts) ask.settings setting reads files_before files_after
  -- These reads were made, once each, in this order and with these limits, and no other; where memory was wanting, with exit status 5, the first of them, or none. A run whose channel has a journal has made all of them.
  pub made : HasReadAt ended.status reads files_before.reads files_after.reads
  pub made_all : ended.journal ≢ [] → HasRead reads files_before.reads files_after.reads
  -- It puts its page, or where the words ask for it its book, with the bytes of the hosts file that were read.
  pub comes : ComesWith ask.workers (asked_of (report_for ask.journal (hosts_bytes reads)) ask.specs plans ask.orders ask.later) turns setting ended before after
