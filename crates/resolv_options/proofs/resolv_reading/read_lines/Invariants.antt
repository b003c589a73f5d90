use Rattle.std.proofs.Common.{◌≡◌, ◌≤◌, [], length, map}
use Rattle.text_lines.specs.Left.{lines_left}
use Rattle.resolv_options.specs.Defaults.{plain_values}
use Rattle.resolv_options.specs.Resolv.{directive_of_line, directives_of, servers_after, with_directives}
use Rattle.resolv_options.proofs.resolv_reading.read_lines.Given as goal

-- what the lines so far have set, and then what those set that are still to come
abbrev pub invariant-loop-line : goal.invariant-loop-line
invariant-loop-line l = record {
  options : with_directives l.options (map directive_of_line (lines_left l.line-iterator)) ≡ with_directives plain_values (directives_of l.text);
  servers : servers_after l.servers.items (map directive_of_line (lines_left l.line-iterator)) ≡ servers_after [] (directives_of l.text);
  few : length l.servers.items ≤ 8;
}
