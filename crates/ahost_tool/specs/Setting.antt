-- The setting of a run's channel, by the files that are read and what the words set.
use Rattle.std.specs.Prelude.{Err, List, Ok, Result, [], ℕ, ◌∷◌, ◌≡◌}
use mathlib.Core.List.{IsPrefix}
use Rattle.hosts_file.specs.declared.hosts.HostLine.{HostLine}
use Rattle.net_world.specs.Cause.{Rose}
use Rattle.net_world.specs.Files.{IsReadOf}
use Rattle.net_world.specs.declared.answers.FileRead.{FileRead}
use Rattle.net_world.specs.declared.answers.FileRead.TheVariants.{Absent, Content, Failed as NotRead, Large}
use Rattle.net_world.specs.declared.read_call.ReadCall.{ReadCall}
use Rattle.resolv_options.specs.Values.{OptionValues}
use Rattle.tool_line.specs.Files.{hosts_of, options_set}
use Rattle.tool_line.specs.Outside.{FilesTold}
use Rattle.tool_line.specs.Read.{HasRead, read_call}
use Rattle.tool_line.specs.Settings.{SettingValues}
use Rattle.tool_line.specs.Words.{Text}
use Rattle.tool_line.specs.declared.files.FileFault.{FileFault}
use Rattle.tool_line.specs.declared.files.FileFault.TheVariants.{Failed, NoMemory as NoMemoryLeft, TooLarge}

-- a file as it was read: where files are told, its whole content of at most so many bytes, or that there is none, or that it has more
pub record ReadsFile (path : Text) (most : ℕ) (file : FileRead) (before after : FilesTold) : Type 0 where
  pub read : IsReadOf before.files path most file
  -- a read fails only where the count of failures rose in this run
  pub fault : file ≡ NotRead → Rose before.faults after.faults

-- the bytes of a file as it was read: none where there is none, or where they weren't read
abbrev pub bytes_read : FileRead → List ℕ
bytes_read (Content bytes) = bytes
bytes_read Absent = []
bytes_read Large = []
bytes_read NotRead = []

-- the bytes of the hosts file, which is read second
abbrev pub hosts_bytes : List ReadCall → List ℕ
hosts_bytes [] = []
hosts_bytes (resolv ∷ []) = []
hosts_bytes (resolv ∷ hosts ∷ more) = bytes_read hosts.read

-- the lines of the hosts file, behind a resolv.conf that gave these options, and the read of it
abbrev pub GivesHosts : Text → OptionValues → Result (OptionValues × List HostLine) FileFault → List ReadCall → FilesTold → FilesTold → Type 0
GivesHosts path options (Ok setting) reads before after =
    (setting.0 ≡ options) × ((file : FileRead) × ReadsFile path 4194304 file before after × (hosts_of file ≡ Ok setting.1) × (reads ≡ read_call path 4194304 file ∷ []))
GivesHosts path options (Err fault) reads before after =
    (file : FileRead) × ReadsFile path 4194304 file before after × (hosts_of file ≡ Err fault) × (reads ≡ read_call path 4194304 file ∷ [])

-- the setting that comes of resolv.conf as it was read: its fault, and then nothing more is read, or with its options what the hosts file gives
abbrev pub GivesSetting : Text → Result OptionValues FileFault → Result (OptionValues × List HostLine) FileFault → List ReadCall → FilesTold → FilesTold → Type 0
GivesSetting hosts (Ok options) result reads before after = GivesHosts hosts options result reads before after
GivesSetting hosts (Err fault) result reads before after = (result ≡ Err fault) × (reads ≡ [])

-- the setting that the two files and the words give, by these reads: resolv.conf first, and then the hosts file
pub record IsSettingOf (resolv hosts : Text) (settings : SettingValues) (result : Result (OptionValues × List HostLine) FileFault) (reads : List ReadCall) (before after : FilesTold) : Type 0 where
  pub file : FileRead
  pub read : ReadsFile resolv 65536 file before after
  pub behind : List ReadCall
  pub reads_are : reads ≡ read_call resolv 65536 file ∷ behind
  pub gives : GivesSetting hosts (options_set settings file) result behind before after

-- it was read: these reads were made, once each, and no other
pub record IsRead (resolv hosts : Text) (settings : SettingValues) (result : Result (OptionValues × List HostLine) FileFault) (before after : FilesTold) : Type 0 where
  pub reads : List ReadCall
  pub setting : IsSettingOf resolv hosts settings result reads before after
  pub made : HasRead reads before.reads after.reads

-- memory was wanting on the way to the setting that they give: the first of the reads were made, or none
pub record IsPartlyRead (resolv hosts : Text) (settings : SettingValues) (before after : FilesTold) : Type 0 where
  pub result : Result (OptionValues × List HostLine) FileFault
  pub reads : List ReadCall
  pub setting : IsSettingOf resolv hosts settings result reads before after
  pub first : List ReadCall
  pub is_first : IsPrefix first reads
  pub made : HasRead first before.reads after.reads

-- they were read and give a setting, and the bytes of the hosts file are these
abbrev pub GivesBytes : Text → Text → SettingValues → OptionValues × List HostLine × List ℕ → FilesTold → FilesTold → Type 0
GivesBytes resolv hosts settings found before after =
    (read : IsRead resolv hosts settings (Ok (found.0, found.1)) before after) × (hosts_bytes read.reads ≡ found.2)

-- what a read of both answered
abbrev pub ReadsSetting : Text → Text → SettingValues → Result (OptionValues × List HostLine × List ℕ) FileFault → FilesTold → FilesTold → Type 0
ReadsSetting resolv hosts settings (Ok setting) before after = GivesBytes resolv hosts settings setting before after
ReadsSetting resolv hosts settings (Err Failed) before after = IsRead resolv hosts settings (Err Failed) before after
ReadsSetting resolv hosts settings (Err TooLarge) before after = IsRead resolv hosts settings (Err TooLarge) before after
ReadsSetting resolv hosts settings (Err NoMemoryLeft) before after = IsPartlyRead resolv hosts settings before after
