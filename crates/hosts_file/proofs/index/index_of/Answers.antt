use Rattle.std.proofs.Common.{◌++◌, ◌∙◌, map, ap, sym}
use Rattle.hosts_file.specs.Hosts.{names_of}
use Rattle.hosts_file.specs.Index.{hashed}
use Rattle.hosts_file.proofs.IndexLemmas.{names_upto}
use Rattle.hosts_file.proofs.index.index_of.Goals as goal

pub loop-number-preserved : goal.loop-number-preserved
loop-number-preserved c =
    let line = c.index-lines-number.result in
    let number = c.loop-number.number in
    c.in_ok-add_names.ensures
    ∙ (ap (λ l. l ++ map (hashed number) (names_of line)) c.loop-number.invariant ∙ sym (names_upto c.args.lines.now number line c.loop-number-test.true c.index-lines-number.is))
