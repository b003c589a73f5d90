use Rattle.std.proofs.Common.{◌≡◌, take, None}
use Rattle.tool_line.specs.Settings.{servers_with}
use Rattle.tool_line.proofs.settings.servers_moved.Given as goal

abbrev pub invariant-loop-server : goal.invariant-loop-server
invariant-loop-server l = l.servers.items ≡ servers_with None l.port (take l.server-index l.others)
