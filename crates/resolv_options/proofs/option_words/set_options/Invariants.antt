use Rattle.std.proofs.Common.{◌≡◌, map, take}
use Rattle.resolv_options.specs.OptionWords.{with_options}
use Rattle.resolv_options.proofs.option_words.set_options.Given as goal

abbrev pub invariant-loop-word : goal.invariant-loop-word
invariant-loop-word l = l.options ≡ with_options l.fn.options (map (λ word. word.now) (take l.word-index l.words))
