use Rattle.std.proofs.Common.{◌≡◌}
use Rattle.ahost_tool.specs.Loading.{host_specs}
use Rattle.ahost_tool.proofs.loading.host_specs.Given as goal

-- the requests for the hosts so far
abbrev pub invariant-loop-number : goal.invariant-loop-number
invariant-loop-number l = l.specs.items ≡ host_specs l.number
