use Rattle.tool_line.proofs.ToldLemmas.{told_refused, told_uses}
use Rattle.tool_line.proofs.words.read_words.Goals as goal

pub returns-in-Some-clause-read : goal.returns-in-Some-clause-read
returns-in-Some-clause-read c = told_uses _ c.in_ok-read.field-0 c.in-Some.read c.in-Some.is c.in_ok-read.ensures

pub returns-in-None-clause-refused : goal.returns-in-None-clause-refused
returns-in-None-clause-refused c = λ refused. told_refused _ c.in_ok-read.field-0 c.in-None.is c.in_ok-read.ensures
