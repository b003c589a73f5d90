use Rattle.std.proofs.Common.{◌≡◌, take}
use Rattle.tool_line.specs.Settings.{servers_at}
use Rattle.tool_line.proofs.settings.servers_at.Given as goal

abbrev pub invariant-loop-address : goal.invariant-loop-address
invariant-loop-address l = l.servers.items ≡ servers_at l.port (take l.address-index l.addresses)
