use Rattle.channel_table.proofs.Base.{length}
use Rattle.channel_table.proofs.table.start_plan.+address_of.Given as goal

abbrev pub decreases-address_of : goal.decreases-address_of
decreases-address_of l = length l.list.now
