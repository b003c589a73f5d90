use Rattle.std.proofs.Common.{◌≡◌, ◌++◌, take}
use Rattle.resolv_options.specs.Search.{candidates_after, with_domains}
use Rattle.resolv_options.proofs.searching.offer_with_domains.Given as goal

abbrev pub invariant-loop-domain : goal.invariant-loop-domain
invariant-loop-domain l = l.names ≡ l.fn.names ++ candidates_after l.fn.names (with_domains l.name (take l.domain-index l.domains))
