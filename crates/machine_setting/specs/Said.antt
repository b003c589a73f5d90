-- What the files that were read say. Unlike a tool, which ends where a file can't be read, a program goes on with what is left.
use Rattle.std.specs.Prelude.{List, Option, [], codes, if◌then◌else◌, length, nat_lt, option_map, ℕ, ◌++◌, ◌∷◌, ◌≡◌}
use mathlib.Core.List.{IsPrefix}
use Rattle.hosts_file.specs.File.{hosts_of}
use Rattle.hosts_file.specs.declared.hosts.HostLine.{HostLine}
use Rattle.net_world.specs.Cause.{Rose}
use Rattle.net_world.specs.Files.{IsReadOf}
use Rattle.net_world.specs.declared.answers.FileRead.{FileRead}
use Rattle.net_world.specs.declared.answers.FileRead.TheVariants.{Absent, Content, Failed, Large}
use Rattle.net_world.specs.declared.read_call.ReadCall.{ReadCall}
use Rattle.resolv_options.specs.Defaults.{plain_values}
use Rattle.resolv_options.specs.Resolv.{resolv_values}
use Rattle.resolv_options.specs.Values.{OptionValues}

-- the options that a resolv.conf of at most 65,536 bytes sets, and otherwise the plain ones
abbrev pub options_by : FileRead → OptionValues
options_by (Content bytes) = if nat_lt 65536 (length bytes) then plain_values else resolv_values bytes
options_by Absent = plain_values
options_by Large = plain_values
options_by Failed = plain_values

-- the lines of a hosts file of at most 4,194,304 bytes, and otherwise none
abbrev pub hosts_by : FileRead → List HostLine
hosts_by (Content bytes) = if nat_lt 4194304 (length bytes) then [] else hosts_of bytes
hosts_by Absent = []
hosts_by Large = []
hosts_by Failed = []

-- what files tell: what they hold, how often a read failed, and the reads
pub record FilesTold : Type 0 where
  pub files : Option (List ℕ → Option (List ℕ))
  pub faults : ℕ
  pub reads : Option (List ReadCall)

abbrev pub files_told : Option (List ℕ → Option (List ℕ)) → ℕ → Option (List ReadCall) → FilesTold
files_told files faults reads = record { files = files; faults = faults; reads = reads }

-- the read of a resolv.conf, and that of a hosts file, with this answer
abbrev pub resolv_call : FileRead → ReadCall
resolv_call file = record { path = codes "/etc/resolv.conf"; most = 65536; read = file }

abbrev pub hosts_call : FileRead → ReadCall
hosts_call file = record { path = codes "/etc/hosts"; most = 4194304; read = file }

-- both files were read, and the options and the lines are what they say
pub record IsSetBy (before after : FilesTold) (options : OptionValues) (hosts : List HostLine) : Type 0 where
  pub resolv : FileRead
  pub resolv_read : IsReadOf before.files (codes "/etc/resolv.conf") 65536 resolv
  pub hosts_file : FileRead
  pub hosts_read : IsReadOf before.files (codes "/etc/hosts") 4194304 hosts_file
  -- Each was read once, in this order, and nothing else was; and a read failed only where the count of failures rose.
  pub reads : after.reads ≡ option_map (λ earlier. earlier ++ resolv_call resolv ∷ hosts_call hosts_file ∷ []) before.reads
  pub resolv_fault : resolv ≡ Failed → Rose before.faults after.faults
  pub hosts_fault : hosts_file ≡ Failed → Rose before.faults after.faults
  pub options_are : options ≡ options_by resolv
  pub hosts_are : hosts ≡ hosts_by hosts_file

-- these are the reads of a resolv.conf and of a hosts file, or of the two only the first, or none
pub record AreFirstReads (reads : List ReadCall) : Type 0 where
  pub resolv : FileRead
  pub hosts_file : FileRead
  pub front : IsPrefix reads (resolv_call resolv ∷ hosts_call hosts_file ∷ [])
