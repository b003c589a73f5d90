use Rattle.ticket_delivery.proofs.PerformLemmas.{destroy_performed}
use Rattle.ticket_delivery.proofs.performing.destroy.Goals as goal

pub returns-clause-performed : goal.returns-clause-performed
returns-clause-performed g c = destroy_performed c.destroy_for.result c.args.by _ _ c.destroy_for.ensures
