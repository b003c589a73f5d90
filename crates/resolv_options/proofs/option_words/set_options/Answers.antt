use Rattle.resolv_options.proofs.OptionLemmas.{option_more}
use Rattle.resolv_options.proofs.option_words.set_options.Goals as goal

pub loop-word-preserved : goal.loop-word-preserved
loop-word-preserved c =
    rw (c.set_option.ensures, c.loop-word.invariant) (option_more c.args.options.now c.args.words.now c.loop-word.word-index _ c.loop-word-test.true)
