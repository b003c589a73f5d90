use Rattle.channel_table.proofs.Base.{refl, sym, ap, arith, ◌≡◌, ◌∙◌, ◌∷◌, Some, map, Take, past_of, first, setting_of, Takes, ticket_number, tokens_of}
use Rattle.channel_table.proofs.Counting.{counted_kept}
use Rattle.channel_table.proofs.Keeping.{happens_one, kept_more, no_more}
use Rattle.channel_table.proofs.RowFrames.{table_taken}
use Rattle.std.specs.FinMap as finite
use Rattle.channel_table.proofs.TokenLemmas.{token_taken, tokens_left}
use Rattle.channel_table.proofs.table.Table.take.Goals as goal

pub invariant_of-self : goal.invariant_of-self
invariant_of-self g c =
    let parts : c.self.inside.ready.items ≡ c.pop_first-ticket.result ∷ c.pop_first-ticket.new.deque.items = c.pop_first-ticket.ensures.items in
    let waits = ap first (c.self.invariant.stands.stand.ready_are ∙ ap (map ticket_number) parts) in
    kept_more g.T.Token.plan g.J.ChannelJournal.told g.J.ChannelJournal.room c.self.inside _ _ refl c.add.ensures.told c.self.invariant (waits ∙ ap Some (sym c.number.ensures))
    (rw c.number.ensures (table_taken g.T.Token.plan (setting_of c.self.inside) _ c.self.inside.rows c.pop_first-ticket.result c.pop_first-ticket.new.deque.items (rw parts at c.self.invariant.stands)))
    (counted_kept (setting_of c.self.inside) (Take c.number.result) (past_of (g.J.ChannelJournal.told c.self.inside.journal)) c.self.invariant.counted refl refl (λ a flies. refl))
    (no_more (Take c.number.result) (past_of (g.J.ChannelJournal.told c.self.inside.journal)) refl ∙ c.self.invariant.accepts) c.self.invariant.destroyed
    (omega arith) (omega arith) (omega arith)
    _ _ c.self.invariant.room c.self.invariant.fits c.add.ensures.room (omega (arith, c.pop_first-ticket.ensures.len))
    (omega (arith, c.self.invariant.room_ready, c.pop_first-ticket.ensures.len, c.pop_first-ticket.ensures.capacity))

pub returns-clause-done : goal.returns-clause-done
returns-clause-done g c =
    let parts : c.self.inside.ready.items ≡ c.pop_first-ticket.result ∷ c.pop_first-ticket.new.deque.items = c.pop_first-ticket.ensures.items in
    let waits = ap first (c.self.invariant.stands.stand.ready_are ∙ ap (map ticket_number) parts) in
    let ticket = (rw parts at c.self.invariant.stands.each_ticket).0 in
    rw (← c.self.view_is) (happens_one g.T.Token.plan g.J.ChannelJournal.told g.J.ChannelJournal.room (Takes g.T.Token.plan (Some c.pop_first-ticket.result)) c.self.inside _ c.args.seat 0 (Take c.number.result) refl c.add.ensures.told (invariant_of-self g c)
    (ap (λ n. Some (Take n)) c.number.ensures, waits, ticket.completes, ticket.accepts))

pub returns-clause-tokens : goal.returns-clause-tokens
returns-clause-tokens g c =
    let parts : c.self.inside.ready.items ≡ c.pop_first-ticket.result ∷ c.pop_first-ticket.new.deque.items = c.pop_first-ticket.ensures.items in
    let table = rw parts at c.self.invariant.stands in
    rw (← c.self.view_is) (
      ap (λ ts. finite.get (tokens_of c.self.inside.rows ts) c.pop_first-ticket.result.call.number) parts
          ∙ token_taken g.T.Token.plan (setting_of c.self.inside) (past_of (g.J.ChannelJournal.told c.self.inside.journal)) c.self.inside.rows c.pop_first-ticket.result c.pop_first-ticket.new.deque.items table,
      tokens_left g.T.Token.plan (setting_of c.self.inside) (past_of (g.J.ChannelJournal.told c.self.inside.journal)) c.self.invariant.lawful.allowed c.self.inside.rows c.pop_first-ticket.result c.pop_first-ticket.new.deque.items table
          ∙ ap (λ ts. finite.remove (tokens_of c.self.inside.rows ts) c.pop_first-ticket.result.call.number) (sym parts),
    )
