use Rattle.channel_table.proofs.Base.{length}
use Rattle.channel_table.proofs.table.server_list.+find_server.Given as goal

abbrev pub decreases-find_server : goal.decreases-find_server
decreases-find_server l = length l.servers.now
