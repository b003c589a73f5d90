use Rattle.hosts_file.proofs.SearchLemmas.{NoneServes}
use Rattle.hosts_file.proofs.hosts.Hosts.canonical.Given as goal

abbrev pub invariant-loop-like : goal.invariant-loop-like
invariant-loop-like l = NoneServes l.name l.family l.self l.found l.like-index
