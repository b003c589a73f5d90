-- What the files that were read say, and the options that come of it.
use Rattle.std.specs.Prelude.{List, [], length, nat_lt, if◌then◌else◌, Result, Ok, Err}
use Rattle.hosts_file.specs.File as file
use Rattle.hosts_file.specs.declared.hosts.HostLine.{HostLine}
use Rattle.net_world.specs.declared.answers.FileRead.{FileRead}
use Rattle.net_world.specs.declared.answers.FileRead.TheVariants.{Content, Absent, Large, Failed as NotRead}
use Rattle.resolv_options.specs.Defaults.{plain_values}
use Rattle.resolv_options.specs.Resolv.{resolv_values}
use Rattle.resolv_options.specs.Values.{OptionValues}
use Rattle.tool_line.specs.Settings.{SettingValues, options_with}
use Rattle.tool_line.specs.declared.files.FileFault.{FileFault}
use Rattle.tool_line.specs.declared.files.FileFault.TheVariants.{Failed, TooLarge}

-- the options that a resolv.conf sets: it has 65,536 bytes at most, and an absent one leaves the defaults
abbrev pub resolv_of : FileRead → Result OptionValues FileFault
resolv_of (Content bytes) = if nat_lt 65536 (length bytes) then Err TooLarge else Ok (resolv_values bytes)
resolv_of Absent = Ok plain_values
resolv_of Large = Err TooLarge
resolv_of NotRead = Err Failed

-- the lines of a hosts file: it has 4,194,304 bytes at most, and an absent one has none
abbrev pub hosts_of : FileRead → Result (List HostLine) FileFault
hosts_of (Content bytes) = if nat_lt 4194304 (length bytes) then Err TooLarge else Ok (file.hosts_of bytes)
hosts_of Absent = Ok []
hosts_of Large = Err TooLarge
hosts_of NotRead = Err Failed

-- these options, with what the words set
abbrev pub with_settings : SettingValues → Result OptionValues FileFault → Result OptionValues FileFault
with_settings settings (Ok options) = Ok (options_with settings options)
with_settings settings (Err fault) = Err fault

-- the options of a channel: those of resolv.conf, with what the words set
abbrev pub options_set : SettingValues → FileRead → Result OptionValues FileFault
options_set settings file = with_settings settings (resolv_of file)
