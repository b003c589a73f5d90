use Rattle.channel_table.proofs.Base.{◌≡◌, ◌∙◌, ap, subst, sym, true, Legs, Keeps, key_of}
use Rattle.std.specs.FinSet as set
use Rattle.channel_table.proofs.ListedLemmas.{insert_keeps, listed_itself}
use Rattle.channel_table.proofs.table.finding.list_staying.Goals as goal

pub returns-in_ok-put-clause-listed : goal.returns-in_ok-put-clause-listed
returns-in_ok-put-clause-listed g c =
    λ waiting. subst (λ (legs : Legs). set.contains legs (key_of c.args.row.now.number) ≡ true) (sym (c.in_ok-put.ensures.ok ∙ ap (set.insert c.args.waiting.now) c.key_of.ensures)) (listed_itself c.args.waiting.now c.args.row.now.number)

pub returns-in_ok-put-clause-kept : goal.returns-in_ok-put-clause-kept
returns-in_ok-put-clause-kept g c = subst (Keeps c.args.waiting.now) (sym c.in_ok-put.ensures.ok) (insert_keeps c.args.waiting.now c.key_of.result)
