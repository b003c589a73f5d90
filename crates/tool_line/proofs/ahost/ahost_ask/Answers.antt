use Rattle.std.proofs.Common.{◌≡◌, Err, ap, rules}
use Rattle.tool_line.specs.declared.fault.WordFault.TheVariants.{Refused}
use Rattle.tool_line.specs.Ahost as meaning
use Rattle.tool_line.specs.Parser.{table_of}
use Rattle.tool_line.proofs.AskLemmas.{asks_none, asks_read, asks_refused}
use Rattle.tool_line.proofs.ahost.ahost_ask.Goals as goal

pub returns-in-Err-clause-refused : goal.returns-in-Err-clause-refused
returns-in-Err-clause-refused c = λ refused ask asked.
    let table : table_of c.as_slice.result.now ≡ meaning.ahost_options = search rules in
    let fault : c.in-Err.fault ≡ Refused = cc in
    asks_refused meaning.IsSaid _ _ _ table (c.in-Err.ensures.refused (ap (λ f. Err f) fault)) ask asked

pub returns-in-Ok-clause-read : goal.returns-in-Ok-clause-read
returns-in-Ok-clause-read c =
    let table : table_of c.as_slice.result.now ≡ meaning.ahost_options = search rules in
    asks_read meaning.IsSaid _ _ _ table _ c.in-Ok.ensures.read _ c.ask_in.ensures.read

pub returns-in-Ok-clause-refused : goal.returns-in-Ok-clause-refused
returns-in-Ok-clause-refused c = λ refused ask asked.
    let table : table_of c.as_slice.result.now ≡ meaning.ahost_options = search rules in
    asks_none meaning.IsSaid _ _ _ table _ c.in-Ok.ensures.read (c.ask_in.ensures.refused refused) ask asked
