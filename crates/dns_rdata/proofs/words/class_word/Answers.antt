use Rattle.std.proofs.Common.{◌≡◌, Some, slice_index_or, sym, subst, ◌∙◌, rules}
use Rattle.std.specs.Prelude.{IfSome}
use Rattle.dns_rdata.specs.Table.{class_word, class_words}
use Rattle.dns_rdata.specs.Words.{NamesClass}
use Rattle.dns_rdata.proofs.NamingLemmas.{class_found, class_only}
use Rattle.dns_rdata.proofs.words.class_word.Goals as goal

pub returns-then-is_named-clause-found : goal.returns-then-is_named-clause-found
returns-then-is_named-clause-found c =
    let value : Some (slice_index_or class_words c.loop-class.class-index 0) ≡ class_word c.args.word.now = search rules in
    subst (λ answer. IfSome answer (NamesClass c.args.word.now)) (sym value) (class_found c.args.word.now)

pub returns-then-is_named-clause-only : goal.returns-then-is_named-clause-only
returns-then-is_named-clause-only c class names =
    let value : Some (slice_index_or class_words c.loop-class.class-index 0) ≡ class_word c.args.word.now = search rules in
    value ∙ class_only c.args.word.now class names

pub returns-clause-found : goal.returns-clause-found
returns-clause-found c =
    let value : c.numbered.result ≡ class_word c.args.word.now = search rules in
    subst (λ answer. IfSome answer (NamesClass c.args.word.now)) (sym value) (class_found c.args.word.now)

pub returns-clause-only : goal.returns-clause-only
returns-clause-only c class names =
    let value : c.numbered.result ≡ class_word c.args.word.now = search rules in
    value ∙ class_only c.args.word.now class names
