use Rattle.channel_table.proofs.Base.{sym, ◌∙◌}
use Rattle.channel_table.proofs.LookupLemmas.{concerned_flies}
use Rattle.channel_table.proofs.lookup.Lookup.close.Goals as goal

pub reply-requires : goal.reply-requires
reply-requires c = record { flies = concerned_flies c.args.concerned c.args.is_second c.args.self.now (sym c.concerns.ensures ∙ c.if-concerns.true) }
