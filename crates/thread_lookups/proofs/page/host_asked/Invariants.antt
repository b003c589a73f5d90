use Rattle.std.proofs.Common.{◌≡◌, drop}
use Rattle.thread_lookups.specs.Page.{host_asked}
use Rattle.thread_lookups.proofs.page.host_asked.Given as goal

-- none of the entries so far accepts it with a host
abbrev pub invariant-loop-entry : goal.invariant-loop-entry
invariant-loop-entry l = host_asked l.number l.entries ≡ host_asked l.number (drop l.entry-index l.entries)
