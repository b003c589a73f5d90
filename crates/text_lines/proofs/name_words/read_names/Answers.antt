use Rattle.text_lines.proofs.NameWordLemmas.{word_more}
use Rattle.text_lines.proofs.name_words.read_names.Goals as goal

pub loop-word-preserved : goal.loop-word-preserved
loop-word-preserved c = rw c.in_ok-add_name.ensures (word_more c.args.words.now c.loop-word.word-index _ c.loop-word.names c.loop-word-test.true c.loop-word.invariant)
