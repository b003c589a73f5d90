use Rattle.hosts_file.proofs.SearchLemmas.{HavePassed}
use Rattle.hosts_file.proofs.hosts.Hosts.addresses.Given as goal

abbrev pub invariant-loop-like : goal.invariant-loop-like
invariant-loop-like l = HavePassed l.name l.family l.self l.found l.like-index l.next l.addresses
