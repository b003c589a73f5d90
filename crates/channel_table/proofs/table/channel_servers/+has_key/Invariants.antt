use Rattle.channel_table.proofs.Base.{length}
use Rattle.channel_table.proofs.table.channel_servers.+has_key.Given as goal

abbrev pub decreases-has_key : goal.decreases-has_key
decreases-has_key l = length l.servers.now
