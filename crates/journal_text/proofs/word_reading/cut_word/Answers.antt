use Rattle.std.proofs.Common.{◌∙◌, ap}
use Rattle.journal_text.specs.LineReading.{words_of}
use Rattle.journal_text.proofs.CutLemmas.{parts_behind}
use Rattle.journal_text.proofs.word_reading.cut_word.Goals as goal

pub returns-in-Some : goal.returns-in-Some
returns-in-Some c = ap words_of c.in-Some.ensures.0 ∙ parts_behind 32 c.in-Some.word.now c.in-Some.rest.now c.in-Some.ensures.1
