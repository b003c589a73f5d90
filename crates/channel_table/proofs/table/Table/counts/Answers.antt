use Rattle.channel_table.proofs.Base.{refl, sym, arith, ◌≡◌, ◌∙◌, length, pending, ready, waiting, in_flight, Past, past_of, Setting, setting_of, TellsCounts, number_of, ticket_number}
use Rattle.channel_table.proofs.Keeping.{happens_nothing, pending_count}
use Rattle.channel_table.proofs.Telling.{flying_rows, waiting_rows_count}
use Rattle.channel_table.proofs.table.Table.counts.Goals as goal

pub returns : goal.returns
returns g c =
    let past : Past = past_of (g.J.ChannelJournal.told c.self.inside.journal) in
    let setting : Setting = setting_of c.self.inside in
    let stands = c.self.invariant.stands in
    let flying : c.flying_count.result ≡ length (in_flight setting past) =
    c.flying_count.ensures ∙ sym (flying_rows g.T.Token.plan setting past c.self.inside.rows c.self.inside.ready.items stands) in
    let waits : c.waiting_count.result ≡ length (waiting setting past) =
    c.waiting_count.ensures ∙ sym (waiting_rows_count g.T.Token.plan setting past c.self.inside.rows c.self.inside.ready.items stands) in
    let rows : length c.self.inside.rows ≡ length (pending setting past) = pending_count number_of (pending setting past) c.self.inside.rows stands.stand.pending_are in
    let tickets : length c.self.inside.ready.items ≡ length (ready setting past) = pending_count ticket_number (ready setting past) c.self.inside.ready.items stands.stand.ready_are in
    rw (← c.self.view_is) (happens_nothing g.T.Token.plan g.J.ChannelJournal.told g.J.ChannelJournal.room (TellsCounts _) c.self.inside 0 0 c.self.invariant
    (record {
      nothing = refl;
      requests_pending = omega (arith, c.len.ensures, rows);
      requests_ready = omega (arith, c.len-2.ensures, tickets);
      legs_waiting = waits;
      legs_flying = flying;
    }))
