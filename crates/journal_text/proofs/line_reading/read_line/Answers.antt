use Rattle.journal_text.proofs.LineLemmas.{line_spelled}
use Rattle.journal_text.proofs.line_reading.read_line.Goals as goal

pub returns-in-None-clause-spelled : goal.returns-in-None-clause-spelled
returns-in-None-clause-spelled c =
    (line_spelled c.args.line.now c.of-words.result c.read_words.new.words c.in_ok-found.found c.of-words.ensures c.in_ok-found.ensures.took.0 c.in-None.ensures.0, c.in_ok-found.ensures.took.1)
