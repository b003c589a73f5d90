use Rattle.std.proofs.Common.{◌∙◌, arith}
use Rattle.tool_line.proofs.ValueLemmas.{number_spelled, spelled_number}
use Rattle.tool_line.proofs.values.number.Goals as goal

pub returns-clause-found : goal.returns-clause-found
returns-clause-found c = rw c.read_number.ensures (number_spelled c.args.least c.args.most c.args.word.now (omega arith))

pub returns-clause-only : goal.returns-clause-only
returns-clause-only c = λ n spelled low high. c.read_number.ensures ∙ spelled_number c.args.least c.args.most n c.args.word.now (omega arith) spelled low high
