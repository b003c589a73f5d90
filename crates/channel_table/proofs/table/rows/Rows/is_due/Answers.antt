use Rattle.channel_table.proofs.Base.{None, Some, least, dues}
use Rattle.channel_table.proofs.FirstDue.{due_by_moment}
use Rattle.channel_table.proofs.table.rows.Rows.is_due.Goals as goal

pub returns-in-Some : goal.returns-in-Some
returns-in-Some g c = due_by_moment c.args.at (least (dues c.args.self.now)) (Some c.in-Some.due) c.in-Some.ensures

pub returns-in-None : goal.returns-in-None
returns-in-None g c = due_by_moment c.args.at (least (dues c.args.self.now)) None c.in-None.ensures
