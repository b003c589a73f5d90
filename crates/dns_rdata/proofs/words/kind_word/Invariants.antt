use Rattle.std.proofs.Common.{◌≡◌, drop}
use Rattle.std.specs.Prelude.{find}
use Rattle.dns_rdata.specs.Table.{is_named, kind_name, kind_words}
use Rattle.dns_rdata.proofs.words.kind_word.Given as goal

-- no name before this one was the word
abbrev pub invariant-loop-kind : goal.invariant-loop-kind
invariant-loop-kind l = find (λ kind. is_named l.word (kind_name kind)) kind_words ≡ find (λ kind. is_named l.word (kind_name kind)) (drop l.kind-index kind_words)
