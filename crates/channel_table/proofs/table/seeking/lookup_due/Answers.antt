use Rattle.channel_table.proofs.Base.{false, refl, subst, sym, true, ◌≡◌, IsDueOf, is_due}
use Rattle.channel_table.proofs.DueLookupLemmas.{due_found}
use Rattle.channel_table.proofs.table.seeking.lookup_due.Goals as goal

pub returns-then-is_due : goal.returns-then-is_due
returns-then-is_due g c =
    subst (IsDueOf c.args.index c.args.row.now c.args.leg c.args.due) (sym c.due_lookup.ensures) (due_found c.args.index c.args.row.now c.args.leg c.args.due false c.args.row.now.first refl (sym c.if-is_due.ensures))

pub returns-in-Some : goal.returns-in-Some
returns-in-Some g c =
    subst (IsDueOf c.args.index c.args.row.now c.args.leg c.args.due) (sym c.due_lookup-in-Some.ensures) (due_found c.args.index c.args.row.now c.args.leg c.args.due true c.in-Some.lookup c.in-Some.is (subst (λ lookup. is_due c.args.leg c.args.due lookup ≡ true) c.lookup.ensures (sym c.if-is_due-2.ensures)))
