use Rattle.std.proofs.Common.{◌≡◌, map, take}
use Rattle.text_lines.specs.Names.{names_of}
use Rattle.text_lines.proofs.name_words.read_names.Given as goal

abbrev pub invariant-loop-word : goal.invariant-loop-word
invariant-loop-word l = l.names ≡ names_of (map (λ word. word.now) (take l.word-index l.words))
