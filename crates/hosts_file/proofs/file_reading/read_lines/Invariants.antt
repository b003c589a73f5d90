use Rattle.std.proofs.Common.{◌≡◌, ◌++◌}
use Rattle.std.specs.Prelude.{filter_map}
use Rattle.text_lines.specs.Left.{lines_left}
use Rattle.hosts_file.specs.File.{host_of_line, hosts_of}
use Rattle.hosts_file.proofs.file_reading.read_lines.Given as goal

-- what the lines so far say, and then what those say that are still to come
abbrev pub invariant-loop-line : goal.invariant-loop-line
invariant-loop-line l = l.hosts.items ++ filter_map host_of_line (lines_left l.line-iterator) ≡ hosts_of l.text
