use Rattle.channel_table.proofs.Base.{refl, sym, ap, ◌∙◌, option_map, past_of, Due, setting_of, TellsDue}
use Rattle.channel_table.proofs.Keeping.{happens_nothing}
use Rattle.channel_table.proofs.Telling.{first_due_rows}
use Rattle.channel_table.proofs.table.Table.next_due.Goals as goal

pub returns : goal.returns
returns g c =
    let told = first_due_rows g.T.Token.plan (setting_of c.self.inside) (past_of (g.J.ChannelJournal.told c.self.inside.journal)) c.self.inside.rows c.self.inside.ready.items c.self.invariant.stands in
    rw (← c.self.view_is) (happens_nothing g.T.Token.plan g.J.ChannelJournal.told g.J.ChannelJournal.room (TellsDue c.first_due.result) c.self.inside 0 0 c.self.invariant
    (record { nothing = refl; answer = c.first_due.ensures ∙ sym (ap (option_map (λ (d : Due). d.at)) told) }))
