use Rattle.channel_table.proofs.Base.{refl, sym, ◌∙◌, past_of, setting_of, TellsBusy}
use Rattle.channel_table.proofs.Keeping.{happens_nothing}
use Rattle.channel_table.proofs.Telling.{busy_rows}
use Rattle.channel_table.proofs.table.Table.link_busy.Goals as goal

pub returns : goal.returns
returns g c =
    let told = busy_rows g.T.Token.plan (setting_of c.self.inside) (past_of (g.J.ChannelJournal.told c.self.inside.journal)) c.args.server c.args.link c.self.inside.rows c.self.inside.ready.items c.self.invariant.stands in
    rw (← c.self.view_is) (happens_nothing g.T.Token.plan g.J.ChannelJournal.told g.J.ChannelJournal.room (TellsBusy c.args.server c.args.link c.any_over.result) c.self.inside 0 0 c.self.invariant
    (record { nothing = refl; answer = c.any_over.ensures ∙ sym told }))
