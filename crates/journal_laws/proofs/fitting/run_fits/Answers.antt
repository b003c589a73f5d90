use Rattle.std.proofs.Common.{subst, ◌∙◌}
use Rattle.std.specs.List.{AllByRecursion}
use Rattle.net_addr.specs.Addr.{IsAddr}
use Rattle.journal_text.specs.Fits.{FitsEntry, FitsName, FitsServer}
use Rattle.journal_laws.proofs.fitting.run_fits.Goals as goal

pub returns : goal.returns
returns c = record {
  limits = c.tries-tries.ensures.limits;
  servers = subst (AllByRecursion FitsServer) (c.as_slice.ensures ∙ c.servers.ensures.value) c.servers_fit.ensures;
  domains = subst (AllByRecursion FitsName) (c.as_slice-2.ensures ∙ c.domains.ensures.value) c.domains_fit.ensures;
  sources = subst (AllByRecursion IsAddr) (c.as_slice-3.ensures ∙ c.sources.ensures.value) c.sources_fit.ensures;
  hosts_bytes = c.bytes_fit.ensures;
  entries = subst (AllByRecursion FitsEntry) c.entries.ensures c.entries_fit.ensures;
}
