use Rattle.std.proofs.Common.{◌++◌, ◌∙◌, ap, refl, true}
use Rattle.acache_tool.specs.Parts.{head_of}
use Rattle.acache_tool.proofs.AskLemmas.{hit_shown}
use Rattle.acache_tool.proofs.shown.show_hit.Goals as goal

pub returns-in-Some : goal.returns-in-Some
returns-in-Some c =
    hit_shown c.args.name.now c.args.question.now c.args.at c.args.shown.now (record { cache = c.page_of_hit.new.cache; text = c.add.new.text; good = c.both-shown.result }) c.in_ok-spec.spec c.in-Some.page c.in-Some.good c.in_ok-spec.ensures _ refl
    (rw c.in-Some.is at c.in_ok-page.ensures.page) (rw c.in-Some.is at c.in_ok-page.ensures.good) c.in_ok-page.ensures.used (c.in_ok-add-in-Some.ensures ∙ ap (λ p. c.args.shown.now.text.items ++ (head_of true ++ p)) c.as_slice.ensures) c.both-shown.ensures
