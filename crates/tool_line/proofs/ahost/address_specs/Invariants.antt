use Rattle.std.proofs.Common.{◌≡◌, map, take}
use Rattle.chan_types.specs.declared.spec.Spec.TheVariants.{Address}
use Rattle.tool_line.proofs.ahost.address_specs.Given as goal

abbrev pub invariant-loop-host : goal.invariant-loop-host
invariant-loop-host l = l.specs.items ≡ map (λ host. Address host.now l.family l.nosort) (take l.host-index l.hosts)
