use Rattle.ticket_delivery.proofs.PerformLemmas.{ask_performed}
use Rattle.ticket_delivery.proofs.performing.ask.Goals as goal

pub returns-clause-performed : goal.returns-clause-performed
returns-clause-performed g c =
    ask_performed c.args.spec c.args.script c.scripted.result c.accept_for.result c.args.by _ _ c.settle.result c.scripted.ensures c.accept_for.ensures c.settle.ensures
