use Rattle.hosts_file.proofs.IndexLemmas.{lead_to_lines}
use Rattle.hosts_file.proofs.hosts.Hosts.names_like.Goals as goal

pub returns : goal.returns
returns c =
    rw (c.names_at.ensures, c.as_slice.ensures.value, c.hash_of.ensures, ← c.self.view_is)
    (lead_to_lines c.args.name.now c.self.inside.lines.items c.self.inside.names.items c.self.invariant)
