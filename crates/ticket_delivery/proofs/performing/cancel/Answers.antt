use Rattle.ticket_delivery.proofs.PerformLemmas.{cancel_performed}
use Rattle.ticket_delivery.proofs.performing.cancel.Goals as goal

pub returns-clause-performed : goal.returns-clause-performed
returns-clause-performed g c = cancel_performed c.cancel_for.result c.args.by _ _ c.cancel_for.ensures
