use Rattle.channel_table.proofs.Base.{refl, ap, arith, cond, ◌∙◌, ◌≤◌, length, Destroy, Destruction, Past, past_of, setting_of, Destroys}
use Rattle.channel_table.proofs.Counting.{counted_unjudged}
use Rattle.channel_table.proofs.Keeping.{happens_one, kept_more, no_more}
use Rattle.channel_table.proofs.TableSteps.{table_ended}
use Rattle.channel_table.proofs.TokenLemmas.{each_off, tokens_ended}
use Rattle.channel_table.proofs.table.Table.destroy.Goals as goal

pub invariant_of-self : goal.invariant_of-self
invariant_of-self g c =
    let past : Past = past_of (g.J.ChannelJournal.told c.self.inside.journal) in
    let ended = table_ended g.T.Token.plan (setting_of c.self.inside) Destroy past Destruction refl refl refl (λ n. refl) (λ a. refl) c.self.inside.rows c.self.inside.ready.items c.self.invariant.stands in
    let open_ : 1 ≤ cond c.self.inside.closed 0 1 = rw c.if-self.false (omega arith) in
    kept_more g.T.Token.plan g.J.ChannelJournal.told g.J.ChannelJournal.room c.self.inside _ _ refl c.add.ensures.told c.self.invariant (c.self.invariant.destroyed ∙ c.if-self.false)
    (rw (c.complete_all.ensures.none, c.complete_all.ensures.tickets) ended)
    (counted_unjudged (setting_of c.self.inside) Destroy past c.self.invariant.counted refl refl (λ a earlier. refl))
    (no_more Destroy past refl ∙ c.self.invariant.accepts) refl
    (omega arith) (omega arith) (omega arith)
    _ _ c.self.invariant.room c.self.invariant.fits c.add.ensures.room (omega (arith, open_, c.complete_all.ensures.ready_len, ap length c.complete_all.ensures.none))
    (omega (arith, c.self.invariant.room_ready, c.complete_all.ensures.ready_len, ap length c.complete_all.ensures.none, c.complete_all.ensures.capacity))

pub returns-clause-done : goal.returns-clause-done
returns-clause-done g c =
    rw (← c.self.view_is) (happens_one g.T.Token.plan g.J.ChannelJournal.told g.J.ChannelJournal.room (Destroys _) c.self.inside _ c.args.seat c.args.by Destroy refl c.add.ensures.told (invariant_of-self g c)
    (record { answer = rw (c.self.invariant.destroyed, c.if-self.false) refl; entry = refl }))

pub returns-clause-tokens : goal.returns-clause-tokens
returns-clause-tokens g c =
    rw (← c.self.view_is, c.complete_all.ensures.none, c.complete_all.ensures.tickets) (tokens_ended Destruction c.self.inside.rows c.self.inside.ready.items (each_off g.T.Token.plan (setting_of c.self.inside) (past_of (g.J.ChannelJournal.told c.self.inside.journal)) c.self.inside.rows c.self.inside.ready.items c.self.invariant.stands.each_row c.self.invariant.stands.each_ticket))
