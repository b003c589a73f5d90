use Rattle.channel_table.proofs.Base.{◌∙◌, ap, owned}
use Rattle.channel_table.proofs.Desks.{owned_empty}
use Rattle.channel_table.proofs.alone.Alone.make.Goals as goal

pub returns : goal.returns
returns g c = ap (owned g.T.Token.name 0) c.in_ok-make.ensures ∙ owned_empty g.T.Token.name (record { options = c.args.options; hosts = c.args.hosts })
