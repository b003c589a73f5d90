use Rattle.channel_table.proofs.Base.{refl, ap, arith, ◌≡◌, ◌∙◌, length, ne_eqb, ◌≢◌, Cancel, Cancelled, pending, Past, past_of, setting_of, Cancels, number_of}
use Rattle.channel_table.proofs.Counting.{counted_unjudged}
use Rattle.channel_table.proofs.Keeping.{happens_one, kept_more, no_more, pending_count, some_pending}
use Rattle.channel_table.proofs.TableSteps.{table_ended}
use Rattle.channel_table.proofs.TokenLemmas.{each_off, tokens_ended}
use Rattle.channel_table.proofs.table.Table.cancel.Goals as goal

pub invariant_of-self : goal.invariant_of-self
invariant_of-self g c =
    let past : Past = past_of (g.J.ChannelJournal.told c.self.inside.journal) in
    let some : length c.self.inside.rows ≢ 0 = omega (arith, c.if-count-eq0.false, c.len-count.ensures) in
    let ended = table_ended g.T.Token.plan (setting_of c.self.inside) Cancel past Cancelled refl refl refl (λ n. refl) (λ a. refl) c.self.inside.rows c.self.inside.ready.items c.self.invariant.stands in
    kept_more g.T.Token.plan g.J.ChannelJournal.told g.J.ChannelJournal.room c.self.inside _ _ refl c.add.ensures.told c.self.invariant
    (some_pending number_of (pending (setting_of c.self.inside) past) c.self.inside.rows c.self.invariant.stands.stand.pending_are some)
    (rw (c.complete_all.ensures.none, c.complete_all.ensures.tickets) ended)
    (counted_unjudged (setting_of c.self.inside) Cancel past c.self.invariant.counted refl refl (λ a earlier. refl))
    (no_more Cancel past refl ∙ c.self.invariant.accepts) c.self.invariant.destroyed
    (omega arith) (omega arith) (omega arith)
    _ _ c.self.invariant.room c.self.invariant.fits c.add.ensures.room (omega (arith, c.if-count-eq0.false, c.len-count.ensures, c.complete_all.ensures.ready_len, ap length c.complete_all.ensures.none))
    (omega (arith, c.self.invariant.room_ready, c.complete_all.ensures.ready_len, ap length c.complete_all.ensures.none, c.complete_all.ensures.capacity))

pub returns-clause-done : goal.returns-clause-done
returns-clause-done g c =
    let past : Past = past_of (g.J.ChannelJournal.told c.self.inside.journal) in
    let count : c.len-count.result ≡ length (pending (setting_of c.self.inside) past) =
    omega (arith, c.len-count.ensures, pending_count number_of (pending (setting_of c.self.inside) past) c.self.inside.rows c.self.invariant.stands.stand.pending_are) in
    rw (← c.self.view_is) (happens_one g.T.Token.plan g.J.ChannelJournal.told g.J.ChannelJournal.room (Cancels c.len-count.result) c.self.inside _ c.args.seat c.args.by Cancel refl c.add.ensures.told (invariant_of-self g c)
    (record { all_pending = count; entry = rw (ne_eqb c.len-count.result 0 c.if-count-eq0.false) refl }))

pub returns-clause-tokens : goal.returns-clause-tokens
returns-clause-tokens g c =
    rw (← c.self.view_is, c.complete_all.ensures.none, c.complete_all.ensures.tickets) (tokens_ended Cancelled c.self.inside.rows c.self.inside.ready.items (each_off g.T.Token.plan (setting_of c.self.inside) (past_of (g.J.ChannelJournal.told c.self.inside.journal)) c.self.inside.rows c.self.inside.ready.items c.self.invariant.stands.each_row c.self.invariant.stands.each_ticket))
