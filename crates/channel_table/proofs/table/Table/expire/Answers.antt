use Rattle.channel_table.proofs.Base.{refl, sym, ap, arith, ◌∙◌, Ok, None, Entry, What, Expire, Past, past_of, least, Expires, setting_of, dues, NotDue, Expired}
use Rattle.channel_table.proofs.EndedAttempts.{due_counted, due_may, due_server, due_stands, due_there, tokens_behind_end}
use Rattle.channel_table.proofs.Expiring.{expires_failed}
use Rattle.channel_table.proofs.FirstDue.{due_later}
use Rattle.channel_table.proofs.Keeping.{few_closed, happens_nothing, happens_one, happens_same, kept_grown, kept_more, no_more}
use Rattle.channel_table.proofs.KeptTable.{entry_added, servers_few, servers_some}
use Rattle.channel_table.proofs.Telling.{first_due_rows}
use Rattle.channel_table.proofs.table.Table.expire.Goals as goal

pub returns-then-not-is_due-clause-done : goal.returns-then-not-is_due-clause-done
returns-then-not-is_due-clause-done g c =
    let past : Past = past_of (g.J.ChannelJournal.told c.self.inside.journal) in
    let told = first_due_rows g.T.Token.plan (setting_of c.self.inside) past c.self.inside.rows c.self.inside.ready.items c.self.invariant.stands in
    let later = due_later c.args.at (least (dues c.self.inside.rows)) (sym c.is_due.ensures ∙ c.if-not-is_due.true) in
    let means : Expires c.args.at (Ok NotDue) (setting_of c.self.inside) past None = (refl, rw told later) in
    rw (← c.self.view_is) (happens_nothing g.T.Token.plan g.J.ChannelJournal.told g.J.ChannelJournal.room (Expires c.args.at (Ok NotDue)) c.self.inside c.args.seat 0 c.self.invariant means)

pub returns-in_err-room_for_entry-in-Some-clause-done : goal.returns-in_err-room_for_entry-in-Some-clause-done
returns-in_err-room_for_entry-in-Some-clause-done g c =
    let told = first_due_rows g.T.Token.plan (setting_of c.self.inside) (past_of (g.J.ChannelJournal.told c.self.inside.journal)) c.self.inside.rows c.self.inside.ready.items c.self.invariant.stands in
    let is = told ∙ c.in-Some.ensures.1 in
    rw (← c.self.view_is) (happens_same g.T.Token.plan g.J.ChannelJournal.told g.J.ChannelJournal.room (Expires c.args.at c.from_residual.result) c.self.inside (g.J.ChannelJournal.told c.room_for_entry.new.journal) c.args.seat 0 c.room_for_entry.ensures.told c.self.invariant
    (expires_failed c.args.at c.from_residual.result (setting_of c.self.inside) (past_of (g.J.ChannelJournal.told c.self.inside.journal)) c.from_residual.ensures.0 (rw is c.if-first-at.true)))

pub end_attempt-requires-clause-some : goal.end_attempt-requires-clause-some
end_attempt-requires-clause-some g c = servers_some g.T.Token.plan g.J.ChannelJournal.told g.J.ChannelJournal.room c.self.inside c.self.invariant

pub end_attempt-requires-clause-few : goal.end_attempt-requires-clause-few
end_attempt-requires-clause-few g c = servers_few g.T.Token.plan g.J.ChannelJournal.told g.J.ChannelJournal.room c.self.inside c.self.invariant

pub end_attempt-requires-clause-there : goal.end_attempt-requires-clause-there
end_attempt-requires-clause-there g c = due_there c.self.invariant c.in-Some.ensures (due_server c.self.invariant c.in-Some.ensures c.lookup.result.now c.row.ensures c.lookup.ensures c.server_of-server.ensures)

pub invariant_of-self-then-first-at : goal.invariant_of-self-then-first-at
invariant_of-self-then-first-at g c =
    let what : What = Expire c.in-Some.first.number c.in-Some.first.leg_number c.args.at in
    let entry : Entry = record { seat = c.args.seat; by = 0; what = what } in
    let room = c.in_ok-room_for_entry-in-Some.ensures in
    let server = due_server c.self.invariant c.in-Some.ensures c.lookup.result.now c.row.ensures c.lookup.ensures c.server_of-server.ensures in
    kept_more _ _ _ c.self.inside _ entry refl (entry_added entry c.add.ensures.told c.room_for_entry.ensures.told) c.self.invariant (due_may c.self.invariant c.in-Some.ensures c.if-first-at.true)
    (due_stands c.self.invariant c.in-Some.ensures c.args.at c.in_ok-end_attempt-in-Some.ensures.ends) (rw c.in_ok-end_attempt-in-Some.ensures.counts (due_counted c.self.invariant c.in-Some.ensures c.args.at server))
    (no_more what (past_of (g.J.ChannelJournal.told c.self.inside.journal)) refl ∙ c.self.invariant.accepts) c.self.invariant.destroyed
    (omega arith) (omega arith) (omega arith)
    _ _ room.room room.fits c.add.ensures.room (omega (arith, c.len.ensures, c.len-in-Some.ensures, c.end_attempt.ensures.fewer, c.end_attempt.ensures.len, few_closed c.self.inside.closed))
    (omega (arith, c.self.invariant.room_ready, c.end_attempt.ensures.len, c.end_attempt.ensures.capacity))

pub returns-in_ok-end_attempt-in-Some-clause-done : goal.returns-in_ok-end_attempt-in-Some-clause-done
returns-in_ok-end_attempt-in-Some-clause-done g c =
    let what : What = Expire c.in-Some.first.number c.in-Some.first.leg_number c.args.at in
    let entry : Entry = record { seat = c.args.seat; by = 0; what = what } in
    rw (← c.self.view_is) (happens_one _ _ _ (Expires c.args.at (Ok (Expired c.in-Some.first.number c.in-Some.first.leg_number))) c.self.inside _ c.args.seat 0 what refl (entry_added entry c.add.ensures.told c.room_for_entry.ensures.told) (invariant_of-self-then-first-at g c)
    (refl, due_may c.self.invariant c.in-Some.ensures c.if-first-at.true))

pub returns-in_err-end_attempt-in-Some-clause-done : goal.returns-in_err-end_attempt-in-Some-clause-done
returns-in_err-end_attempt-in-Some-clause-done g c =
    let told = first_due_rows g.T.Token.plan (setting_of c.self.inside) (past_of (g.J.ChannelJournal.told c.self.inside.journal)) c.self.inside.rows c.self.inside.ready.items c.self.invariant.stands in
    let is = told ∙ c.in-Some.ensures.1 in
    rw (← c.self.view_is) (happens_same g.T.Token.plan g.J.ChannelJournal.told g.J.ChannelJournal.room (Expires c.args.at c.from_residual-in_err-end_attempt-in-Some.result) c.self.inside (g.J.ChannelJournal.told c.room_for_entry.new.journal) c.args.seat 0 c.room_for_entry.ensures.told c.self.invariant
    (expires_failed c.args.at c.from_residual-in_err-end_attempt-in-Some.result (setting_of c.self.inside) (past_of (g.J.ChannelJournal.told c.self.inside.journal)) c.from_residual-in_err-end_attempt-in-Some.ensures.0 (rw is c.if-first-at.true)))

pub returns-in-Some-2-clause-done : goal.returns-in-Some-2-clause-done
returns-in-Some-2-clause-done g c =
    let past : Past = past_of (g.J.ChannelJournal.told c.self.inside.journal) in
    let told = first_due_rows g.T.Token.plan (setting_of c.self.inside) past c.self.inside.rows c.self.inside.ready.items c.self.invariant.stands in
    let is = told ∙ c.in-Some.ensures.1 in
    let means : Expires c.args.at (Ok NotDue) (setting_of c.self.inside) past None = (refl, rw is c.if-first-at.false) in
    rw (← c.self.view_is) (happens_nothing g.T.Token.plan g.J.ChannelJournal.told g.J.ChannelJournal.room (Expires c.args.at (Ok NotDue)) c.self.inside c.args.seat 0 c.self.invariant means)

pub returns-in-None-clause-done : goal.returns-in-None-clause-done
returns-in-None-clause-done g c =
    let past : Past = past_of (g.J.ChannelJournal.told c.self.inside.journal) in
    let told = first_due_rows g.T.Token.plan (setting_of c.self.inside) past c.self.inside.rows c.self.inside.ready.items c.self.invariant.stands in
    let none = told ∙ ap least c.in-None.ensures in
    let means : Expires c.args.at (Ok NotDue) (setting_of c.self.inside) past None = (refl, rw none tt) in
    rw (← c.self.view_is) (happens_nothing g.T.Token.plan g.J.ChannelJournal.told g.J.ChannelJournal.room (Expires c.args.at (Ok NotDue)) c.self.inside c.args.seat 0 c.self.invariant means)

pub invariant_of-self-in_err-end_attempt-in-Some : goal.invariant_of-self-in_err-end_attempt-in-Some
invariant_of-self-in_err-end_attempt-in-Some g c =
    let err = c.in_err-end_attempt-in-Some.ensures.err in
    kept_grown _ _ _ c.self.inside _ (rw (err.0, err.1, err.2) refl) c.room_for_entry.ensures.told c.room_for_entry.ensures.kept c.self.invariant

pub returns-in_ok-end_attempt-in-Some-clause-tokens : goal.returns-in_ok-end_attempt-in-Some-clause-tokens
returns-in_ok-end_attempt-in-Some-clause-tokens g c = rw (← c.self.view_is) (tokens_behind_end c.self.invariant c.in_ok-end_attempt-in-Some.ensures.ends)

pub returns-in_err-end_attempt-in-Some-clause-tokens : goal.returns-in_err-end_attempt-in-Some-clause-tokens
returns-in_err-end_attempt-in-Some-clause-tokens g c =
    let err = c.in_err-end_attempt-in-Some.ensures.err in
    rw (← c.self.view_is, err.1, err.2) refl
