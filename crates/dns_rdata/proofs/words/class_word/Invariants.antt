use Rattle.std.proofs.Common.{◌≡◌, drop}
use Rattle.std.specs.Prelude.{find}
use Rattle.dns_rdata.specs.Table.{is_named, class_name, class_words}
use Rattle.dns_rdata.proofs.words.class_word.Given as goal

-- no name before this one was the word
abbrev pub invariant-loop-class : goal.invariant-loop-class
invariant-loop-class l = find (λ class. is_named l.word (class_name class)) class_words ≡ find (λ class. is_named l.word (class_name class)) (drop l.class-index class_words)
