use Rattle.channel_table.proofs.Base.{length}
use Rattle.channel_table.proofs.table.server_list.+rekey_onto.Given as goal

abbrev pub decreases-rekey_onto : goal.decreases-rekey_onto
decreases-rekey_onto l = length l.servers.now
