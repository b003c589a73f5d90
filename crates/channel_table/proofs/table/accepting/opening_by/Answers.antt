use Rattle.channel_table.proofs.Base.{refl, subst, sym, ◌∙◌, codes, last_is_so, Name, AreAsked}
use Rattle.std.specs.Prelude.{List}
use Rattle.channel_table.proofs.Opening.{opens_asked}
use Rattle.channel_table.proofs.table.accepting.opening_by.Goals as goal

pub returns-then-last_is : goal.returns-then-last_is
returns-then-last_is c = (sym (last_is_so c.last_is.result (codes "onion") c.args.text.now.name c.last_is.ensures) ∙ c.if-last_is.true, refl)

pub returns : goal.returns
returns c =
    let outside = sym (last_is_so c.last_is.result (codes "onion") c.args.text.now.name c.last_is.ensures) ∙ c.if-last_is.false in
    opens_asked _ c.args.text.now.name c.args.kind c.args.class c.first_asked.result outside
    (subst (λ (names : List Name). AreAsked names c.args.kind c.args.class c.first_asked.result) c.in_ok-names.ensures.value c.first_asked.ensures)
