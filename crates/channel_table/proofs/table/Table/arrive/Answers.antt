use Rattle.channel_table.proofs.Base.{refl, arith, ◌∙◌, Ok, Entry, What, Arrive, past_of, Arrives, setting_of, Stray, Matched}
use Rattle.channel_table.proofs.Arriving.{arrives_failed}
use Rattle.channel_table.proofs.EndedAttempts.{landed_counted, landed_means, landed_stands, landed_there, stray_closes, stray_counted, stray_stands, tokens_behind_end}
use Rattle.channel_table.proofs.Keeping.{few_closed, happens_one, happens_same, kept_grown, kept_more, no_more}
use Rattle.channel_table.proofs.KeptTable.{entry_added, servers_few, servers_some}
use Rattle.channel_table.proofs.StrayLemmas.{rows_numbered}
use Rattle.channel_table.proofs.table.Table.arrive.Goals as goal

pub find_landing-requires : goal.find_landing-requires
find_landing-requires g c =
    rows_numbered g.T.Token.plan (setting_of c.self.inside) (past_of (g.J.ChannelJournal.told c.self.inside.journal)) c.self.inside.rows c.self.inside.ready.items c.self.invariant.stands

pub returns-in_err-room_for_entry-clause-done : goal.returns-in_err-room_for_entry-clause-done
returns-in_err-room_for_entry-clause-done g c =
    rw (← c.self.view_is) (happens_same _ _ _ (Arrives c.args.server c.args.link c.args.bytes.now c.from_residual-in_err-room_for_entry.result) c.self.inside (g.J.ChannelJournal.told c.room_for_entry.new.journal) c.args.seat 0 c.room_for_entry.ensures.told c.self.invariant
    (arrives_failed c.args.server c.args.link c.args.bytes.now c.from_residual-in_err-room_for_entry.result (setting_of c.self.inside) (past_of (g.J.ChannelJournal.told c.self.inside.journal)) c.from_residual-in_err-room_for_entry.ensures.0))

pub invariant_of-self-in-None : goal.invariant_of-self-in-None
invariant_of-self-in-None g c =
    let none = rw (c.flags.ensures.value, c.in-None.is) at c.in_ok-found.ensures in
    let what : What = Arrive c.args.server c.args.link c.args.bytes.now in
    let entry : Entry = record { seat = c.args.seat; by = 0; what = what } in
    let room = c.in_ok-room_for_entry.ensures in
    rw c.index_flights.ensures (kept_more _ _ _ c.self.inside _ entry refl (entry_added entry c.arrive.ensures.told c.room_for_entry.ensures.told) c.self.invariant tt
    (stray_stands c.self.invariant c.args.server c.args.link c.args.bytes.now none) (stray_counted c.self.invariant c.args.server c.args.link c.args.bytes.now none)
    (no_more what (past_of (g.J.ChannelJournal.told c.self.inside.journal)) refl ∙ c.self.invariant.accepts) c.self.invariant.destroyed
    (omega arith) (omega arith) (omega arith)
    _ _ room.room room.fits c.arrive.ensures.room (omega (arith, c.len.ensures, c.len-2.ensures, few_closed c.self.inside.closed))
    c.self.invariant.room_ready)

pub returns-in-None-clause-done : goal.returns-in-None-clause-done
returns-in-None-clause-done g c =
    let none = rw (c.flags.ensures.value, c.in-None.is) at c.in_ok-found.ensures in
    let what : What = Arrive c.args.server c.args.link c.args.bytes.now in
    let entry : Entry = record { seat = c.args.seat; by = 0; what = what } in
    rw (← c.self.view_is) (happens_one _ _ _ (Arrives c.args.server c.args.link c.args.bytes.now (Ok Stray)) c.self.inside _ c.args.seat 0 what refl (entry_added entry c.arrive.ensures.told c.room_for_entry.ensures.told) (invariant_of-self-in-None g c) (refl, stray_closes c.self.invariant c.args.server c.args.link c.args.bytes.now none))

pub end_attempt-requires-clause-some : goal.end_attempt-requires-clause-some
end_attempt-requires-clause-some g c = servers_some g.T.Token.plan g.J.ChannelJournal.told g.J.ChannelJournal.room c.self.inside c.self.invariant

pub end_attempt-requires-clause-few : goal.end_attempt-requires-clause-few
end_attempt-requires-clause-few g c = servers_few g.T.Token.plan g.J.ChannelJournal.told g.J.ChannelJournal.room c.self.inside c.self.invariant

pub end_attempt-requires-clause-there : goal.end_attempt-requires-clause-there
end_attempt-requires-clause-there g c = landed_there c.self.invariant (rw (c.flags.ensures.value, c.in-Some.is) at c.in_ok-found.ensures)

pub invariant_of-self-in-Some : goal.invariant_of-self-in-Some
invariant_of-self-in-Some g c =
    let found = rw (c.flags.ensures.value, c.in-Some.is) at c.in_ok-found.ensures in
    let what : What = Arrive c.args.server c.args.link c.args.bytes.now in
    let entry : Entry = record { seat = c.args.seat; by = 0; what = what } in
    let room = c.in_ok-room_for_entry.ensures in
    kept_more _ _ _ c.self.inside _ entry refl (entry_added entry c.arrive-in-Some.ensures.told c.room_for_entry.ensures.told) c.self.invariant tt
    (landed_stands c.self.invariant found c.in_ok-end_attempt-in-Some.ensures.ends) (rw c.in_ok-end_attempt-in-Some.ensures.counts (landed_counted c.self.invariant found))
    (no_more what (past_of (g.J.ChannelJournal.told c.self.inside.journal)) refl ∙ c.self.invariant.accepts) c.self.invariant.destroyed
    (omega arith) (omega arith) (omega arith)
    _ _ room.room room.fits c.arrive-in-Some.ensures.room (omega (arith, c.len.ensures, c.len-2.ensures, c.end_attempt.ensures.fewer, c.end_attempt.ensures.len, few_closed c.self.inside.closed))
    (omega (arith, c.self.invariant.room_ready, c.end_attempt.ensures.len, c.end_attempt.ensures.capacity))

pub returns-in_ok-end_attempt-in-Some-clause-done : goal.returns-in_ok-end_attempt-in-Some-clause-done
returns-in_ok-end_attempt-in-Some-clause-done g c =
    let found = rw (c.flags.ensures.value, c.in-Some.is) at c.in_ok-found.ensures in
    let what : What = Arrive c.args.server c.args.link c.args.bytes.now in
    let entry : Entry = record { seat = c.args.seat; by = 0; what = what } in
    rw (← c.self.view_is) (happens_one _ _ _ (Arrives c.args.server c.args.link c.args.bytes.now (Ok (Matched c.in-Some.landing.number c.in-Some.landing.leg_number))) c.self.inside _ c.args.seat 0 what refl (entry_added entry c.arrive-in-Some.ensures.told c.room_for_entry.ensures.told) (invariant_of-self-in-Some g c)
    (landed_means c.self.invariant found))

pub invariant_of-self-in_err-end_attempt-in-Some : goal.invariant_of-self-in_err-end_attempt-in-Some
invariant_of-self-in_err-end_attempt-in-Some g c =
    let err = c.in_err-end_attempt-in-Some.ensures.err in
    kept_grown _ _ _ c.self.inside _ (rw (err.0, err.1, err.2) refl) c.room_for_entry.ensures.told c.room_for_entry.ensures.kept c.self.invariant

pub returns-in_err-end_attempt-in-Some-clause-done : goal.returns-in_err-end_attempt-in-Some-clause-done
returns-in_err-end_attempt-in-Some-clause-done g c =
    rw (← c.self.view_is) (happens_same _ _ _ (Arrives c.args.server c.args.link c.args.bytes.now c.from_residual-in_err-end_attempt-in-Some.result) c.self.inside (g.J.ChannelJournal.told c.room_for_entry.new.journal) c.args.seat 0 c.room_for_entry.ensures.told c.self.invariant
    (arrives_failed c.args.server c.args.link c.args.bytes.now c.from_residual-in_err-end_attempt-in-Some.result (setting_of c.self.inside) (past_of (g.J.ChannelJournal.told c.self.inside.journal)) c.from_residual-in_err-end_attempt-in-Some.ensures.0))

pub returns-in_ok-end_attempt-in-Some-clause-tokens : goal.returns-in_ok-end_attempt-in-Some-clause-tokens
returns-in_ok-end_attempt-in-Some-clause-tokens g c = rw (← c.self.view_is) (tokens_behind_end c.self.invariant c.in_ok-end_attempt-in-Some.ensures.ends)

pub returns-in-None-clause-tokens : goal.returns-in-None-clause-tokens
returns-in-None-clause-tokens g c = rw (← c.self.view_is, c.index_flights.ensures) refl

pub returns-in_err-end_attempt-in-Some-clause-tokens : goal.returns-in_err-end_attempt-in-Some-clause-tokens
returns-in_err-end_attempt-in-Some-clause-tokens g c =
    let err = c.in_err-end_attempt-in-Some.ensures.err in
    rw (← c.self.view_is, err.1, err.2) refl
