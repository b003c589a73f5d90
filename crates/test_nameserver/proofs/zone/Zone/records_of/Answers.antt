use Rattle.std.proofs.Common.{◌≡◌, ◌∙◌, filter}
use Rattle.test_nameserver.specs.Zone.{records_of}
use Rattle.test_nameserver.specs.Index.{has_key}
use Rattle.test_nameserver.proofs.IndexLemmas.{records_by_key}
use Rattle.test_nameserver.proofs.zone.Zone.records_of.Goals as goal

pub records_at-requires : goal.records_at-requires
records_at-requires c = rw (c.as_slice-2.ensures.value, c.as_slice-3.ensures.value) (c.indexes_at-indexes.ensures ∙ rw c.as_slice.ensures.value (c.self.invariant.places c.in_ok-key.key.items))

pub returns : goal.returns
returns c =
    let same : filter (has_key c.as_slice-3.result.now) c.as_slice-2.result.now ≡ records_of c.args.name.now c.self.inside.records.items =
    rw (c.as_slice-2.ensures.value, c.as_slice-3.ensures.value, c.in_ok-key.ensures.key) (records_by_key c.args.name.now c.self.inside.records.items c.in_ok-key.ensures.name c.self.invariant.names) in
    rw (same, c.self.view_is) at c.records_at.ensures
