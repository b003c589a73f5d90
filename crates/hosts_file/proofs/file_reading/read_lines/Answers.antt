use Rattle.std.proofs.Common.{◌≤◌, ◌+◌, length, ap, arith}
use Rattle.hosts_file.proofs.ReadingLemmas.{few_lines}
use Rattle.hosts_file.proofs.file_reading.read_lines.Goals as goal

pub index_of-requires : goal.index_of-requires
index_of-requires c =
    let few : length c.loop-line.hosts.items ≤ length c.args.text.now + 1 = few_lines _ _ c.args.text.now c.loop-line.invariant in
    omega (arith, few, c.requires, ap length c.as_slice.ensures.value)
