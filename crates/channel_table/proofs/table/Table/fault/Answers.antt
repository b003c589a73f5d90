use Rattle.channel_table.proofs.Base.{refl, arith, ◌∙◌, ◌+◌, ◌<◌, ◌^◌, Ok, length, Entry, What, Fault, Past, past_of, Fails, each-then, IsUnanswered, setting_of, RowStands}
use Rattle.channel_table.proofs.FailureCounts.{past_of-length}
use Rattle.channel_table.proofs.Keeping.{few_closed, happens_by, kept_grown, kept_more, no_more}
use Rattle.channel_table.proofs.KeptTable.{entry_added, fault_counted, fault_stands, fault_there, fault_told, servers_few, servers_some}
use Rattle.channel_table.proofs.TokenLemmas.{apart, each_off, tokens_failed}
use Rattle.channel_table.proofs.table.Table.fault.Goals as goal

pub most_attempts-most-requires-clause-some : goal.most_attempts-most-requires-clause-some
most_attempts-most-requires-clause-some g c = servers_some g.T.Token.plan g.J.ChannelJournal.told g.J.ChannelJournal.room c.self.inside c.self.invariant

pub most_attempts-most-requires-clause-few : goal.most_attempts-most-requires-clause-few
most_attempts-most-requires-clause-few g c = servers_few g.T.Token.plan g.J.ChannelJournal.told g.J.ChannelJournal.room c.self.inside c.self.invariant

pub fail_all-requires-clause-unanswered : goal.fail_all-requires-clause-unanswered
fail_all-requires-clause-unanswered g c =
    each-then (RowStands g.T.Token.plan (setting_of c.self.inside) (past_of (g.J.ChannelJournal.told c.self.inside.journal))) (IsUnanswered c.self.inside.options) c.self.inside.rows (λ row stands. stands.unanswered) c.self.invariant.stands.each_row

pub count_fault-requires : goal.count_fault-requires
count_fault-requires g c = record {
  there = λ some. fault_there g.T.Token.plan g.J.ChannelJournal.told g.J.ChannelJournal.room c.self.inside c.self.invariant c.args.server c.args.link c.args.at c.most_attempts-most.ensures.value c.most_attempts-most.ensures.few (λ none. some (c.in_ok-count.ensures.count ∙ none));
}

pub invariant_of-self-2 : goal.invariant_of-self-2
invariant_of-self-2 g c =
    let past : Past = past_of (g.J.ChannelJournal.told c.self.inside.journal) in
    let what : What = Fault c.args.server c.args.link c.args.at in
    let entry : Entry = record { seat = c.args.seat; by = 0; what = what } in
    let room = c.in_ok-room_for_entry.ensures in
    let small : length past + 1 < 2 ^ 64 = omega (arith, past_of-length (g.J.ChannelJournal.told c.self.inside.journal), c.self.invariant.fits) in
    let counted = fault_counted g.T.Token.plan g.J.ChannelJournal.told g.J.ChannelJournal.room c.self.inside c.self.invariant c.args.server c.args.link c.args.at c.most_attempts-most.ensures.value c.most_attempts-most.ensures.few c.in_ok-count.count small c.in_ok-count.ensures.count in
    kept_more g.T.Token.plan g.J.ChannelJournal.told g.J.ChannelJournal.room c.self.inside _ entry refl (entry_added entry c.add.ensures.told c.room_for_entry.ensures.told) c.self.invariant tt
    (fault_stands g.T.Token.plan g.J.ChannelJournal.told g.J.ChannelJournal.room c.self.inside c.self.invariant c.args.server c.args.link c.args.at c.most_attempts-most.ensures.value c.most_attempts-most.ensures.few c.in_ok-count.ensures.fails)
    (rw c.count_fault.ensures.counts counted)
    (no_more what past refl ∙ c.self.invariant.accepts) c.self.invariant.destroyed
    (omega arith) (omega arith) (omega arith)
    _ _ room.room room.fits c.add.ensures.room (omega (arith, c.len.ensures, c.len-2.ensures, c.fail_all.ensures.fewer, c.fail_all.ensures.len, few_closed c.self.inside.closed))
    (omega (arith, c.self.invariant.room_ready, c.fail_all.ensures.len, c.fail_all.ensures.capacity))

pub returns-clause-done : goal.returns-clause-done
returns-clause-done g c =
    let what : What = Fault c.args.server c.args.link c.args.at in
    let entry : Entry = record { seat = c.args.seat; by = 0; what = what } in
    rw (← c.self.view_is) (happens_by g.T.Token.plan g.J.ChannelJournal.told g.J.ChannelJournal.room (Fails c.args.server c.args.link c.args.at (Ok c.in_ok-count.count)) c.self.inside (g.J.ChannelJournal.told c.add.new.self) c.args.seat 0 what (entry_added entry c.add.ensures.told c.room_for_entry.ensures.told) c.self.invariant tt
    (fault_told g.T.Token.plan g.J.ChannelJournal.told g.J.ChannelJournal.room c.self.inside c.self.invariant c.args.server c.args.link c.args.at c.most_attempts-most.ensures.value c.most_attempts-most.ensures.few c.in_ok-count.count c.in_ok-count.ensures.count))

pub invariant_of-self-in_err-count : goal.invariant_of-self-in_err-count
invariant_of-self-in_err-count g c =
    kept_grown g.T.Token.plan g.J.ChannelJournal.told g.J.ChannelJournal.room c.self.inside _ (rw (c.in_err-count.ensures.err.0, c.in_err-count.ensures.err.1) refl) c.room_for_entry.ensures.told c.room_for_entry.ensures.kept c.self.invariant

pub returns-clause-tokens : goal.returns-clause-tokens
returns-clause-tokens g c =
    rw (← c.self.view_is) (tokens_failed _ _ _ _ c.self.inside.rows _ c.self.inside.ready.items _ c.in_ok-count.ensures.fails
    (apart g.T.Token.plan (setting_of c.self.inside) (past_of (g.J.ChannelJournal.told c.self.inside.journal)) c.self.invariant.lawful.allowed c.self.inside.rows c.self.inside.ready.items c.self.invariant.stands) (each_off g.T.Token.plan (setting_of c.self.inside) (past_of (g.J.ChannelJournal.told c.self.inside.journal)) c.self.inside.rows c.self.inside.ready.items c.self.invariant.stands.each_row c.self.invariant.stands.each_ticket))

pub returns-in_err-count-clause-tokens : goal.returns-in_err-count-clause-tokens
returns-in_err-count-clause-tokens g c = rw (← c.self.view_is, c.in_err-count.ensures.err.0, c.in_err-count.ensures.err.1) refl
