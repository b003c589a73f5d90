use Rattle.channel_table.proofs.Base.{ap, subst, sym, true, ◌∙◌, ◌≡◌, Legs, Keeps, key_of}
use Rattle.std.specs.FinSet as set
use Rattle.channel_table.proofs.ListedLemmas.{insert_keeps, listed_itself}
use Rattle.channel_table.proofs.table.leaving.list_number.Goals as goal

pub returns-in-Ok-clause-listed : goal.returns-in-Ok-clause-listed
returns-in-Ok-clause-listed c = λ on.
    subst (λ (legs : Legs). set.contains legs (key_of c.args.number) ≡ true) (sym (c.in-Ok.ensures.ok ∙ ap (set.insert c.args.waiting.now) c.key_of.ensures)) (listed_itself c.args.waiting.now c.args.number)

pub returns-in-Ok-clause-kept : goal.returns-in-Ok-clause-kept
returns-in-Ok-clause-kept c = subst (Keeps c.args.waiting.now) (sym c.in-Ok.ensures.ok) (insert_keeps c.args.waiting.now c.key_of.result)
