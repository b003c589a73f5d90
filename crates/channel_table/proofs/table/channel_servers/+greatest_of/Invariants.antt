use Rattle.channel_table.proofs.Base.{length}
use Rattle.channel_table.proofs.table.channel_servers.+greatest_of.Given as goal

abbrev pub decreases-greatest_of : goal.decreases-greatest_of
decreases-greatest_of l = length l.servers.now
