use Rattle.std.proofs.Common.{rules}
use Rattle.dns_rdata.specs.Lines.{line_of}
use Rattle.dns_rdata.proofs.lines.line.Goals as goal

pub returns : goal.returns
unfolding line_of
returns c = record { text = search rules }
