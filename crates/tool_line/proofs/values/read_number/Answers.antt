use Rattle.std.proofs.Common.{arith, rules, sym}
use Rattle.tool_line.proofs.ValueLemmas.{too_large}
use Rattle.tool_line.proofs.values.read_number.Goals as goal

pub returns-in-Err : goal.returns-in-Err
returns-in-Err c = sym (too_large c.args.least c.args.most c.args.word.now _ c.in-Err.field-0 (omega arith) (search rules) c.parse.ensures.value.0 c.in-Err.is)
