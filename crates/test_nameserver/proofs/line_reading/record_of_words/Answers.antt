use Rattle.std.proofs.Common.{map}
use Rattle.std.proofs.lemmas.List.{length-map}
use Rattle.test_nameserver.proofs.LineLemmas.{few_words}
use Rattle.test_nameserver.proofs.line_reading.record_of_words.Goals as goal

pub returns-in_default : goal.returns-in_default
returns-in_default c = few_words (map (λ word. word.now) c.args.words.now) (rw length-map c.in_default.len_below)
