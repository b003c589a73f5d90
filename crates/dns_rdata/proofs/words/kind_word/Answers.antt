use Rattle.std.proofs.Common.{◌≡◌, Some, slice_index_or, sym, subst, ◌∙◌, rules, arith}
use Rattle.std.specs.Prelude.{IfSome}
use Rattle.std.proofs.lemmas.Grind.{common_steps}
use Rattle.dns_rdata.specs.Table.{kind_word, kind_words}
use Rattle.dns_rdata.specs.Words.{NamesKind}
use Rattle.dns_rdata.proofs.NamingLemmas.{kind_found, kind_only}
use Rattle.dns_rdata.proofs.words.kind_word.Goals as goal

pub returns-then-is_named-clause-found : goal.returns-then-is_named-clause-found
returns-then-is_named-clause-found c =
    let value : Some (slice_index_or kind_words c.loop-kind.kind-index 0) ≡ kind_word c.args.word.now = search rules in
    subst (λ answer. IfSome answer (NamesKind c.args.word.now)) (sym value) (kind_found c.args.word.now)

pub returns-then-is_named-clause-only : goal.returns-then-is_named-clause-only
returns-then-is_named-clause-only c kind names =
    let value : Some (slice_index_or kind_words c.loop-kind.kind-index 0) ≡ kind_word c.args.word.now = search rules in
    value ∙ kind_only c.args.word.now kind names

pub returns-clause-found : goal.returns-clause-found
returns-clause-found c =
    let value : c.numbered.result ≡ kind_word c.args.word.now = grind (arith, common_steps) in
    subst (λ answer. IfSome answer (NamesKind c.args.word.now)) (sym value) (kind_found c.args.word.now)

pub returns-clause-only : goal.returns-clause-only
returns-clause-only c kind names =
    let value : c.numbered.result ≡ kind_word c.args.word.now = grind (arith, common_steps) in
    value ∙ kind_only c.args.word.now kind names
