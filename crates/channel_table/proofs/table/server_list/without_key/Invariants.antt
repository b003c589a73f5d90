use Rattle.channel_table.proofs.Base.{◌≡◌, take}
use Rattle.channel_model.specs.Servers.{without_key}
use Rattle.channel_table.proofs.table.server_list.without_key.Given as goal

-- of the servers before this index those without the key are left
abbrev pub invariant-loop-server : goal.invariant-loop-server
invariant-loop-server l = l.left.items ≡ without_key l.key (take l.server-index l.servers)
