use Rattle.channel_table.proofs.Base.{refl, sym, subst, arith, ◌≡◌, ◌∙◌, ◌+◌, Ok, Result, [], ◌∷◌, ◌++◌, length, IfOk, Entry, Accept, Past, accepted, past_of, setting_of, Opens, Opening, NoMemory, Accepts}
use Rattle.channel_table.proofs.Counting.{counted_kept}
use Rattle.channel_table.proofs.Keeping.{few_closed, happens_one, kept_more, one_more_accepted}
use Rattle.channel_table.proofs.Newest.{all_older}
use Rattle.channel_table.proofs.Opening.{placed}
use Rattle.channel_table.proofs.PlacedTokens.{tokens_placed}
use Rattle.channel_table.proofs.table.Table.accept.Goals as goal

pub place-requires-clause-newer : goal.place-requires-clause-newer
place-requires-clause-newer g c =
    all_older g.T.Token.plan (setting_of c.self.inside) (past_of (g.J.ChannelJournal.told c.self.inside.journal)) c.self.invariant.lawful.allowed (c.self.inside.accepted + 1) (omega (arith, c.self.invariant.accepts)) c.self.inside.rows c.self.inside.ready.items c.self.invariant.stands

pub invariant_of-self : goal.invariant_of-self
invariant_of-self g c =
    let past : Past = past_of (g.J.ChannelJournal.told c.self.inside.journal) in
    let next : c.self.inside.accepted + 1 ≡ length (accepted past) + 1 = omega (arith, c.self.invariant.accepts) in
    let p = c.in-Ok.ensures in
    let opens : Opens (setting_of c.self.inside) (c.self.inside.accepted + 1) c.args.spec c.in-Ok.prepared.opening =
    subst (λ (r : Result Opening NoMemory). IfOk r (Opens (setting_of c.self.inside) (c.self.inside.accepted + 1) c.args.spec)) p.opening c.opening_of-opening.ensures in
    let entry : Entry = record { seat = c.args.seat; by = c.args.by; what = Accept (c.self.inside.accepted + 1) c.args.spec (g.T.Token.plan c.args.token) } in
    kept_more g.T.Token.plan g.J.ChannelJournal.told g.J.ChannelJournal.room c.self.inside _ entry refl (rw (c.add.ensures.told, p.same.0, p.script) refl) c.self.invariant (c.self.invariant.destroyed ∙ c.if-self.false, next)
    (placed g.T.Token.plan (setting_of c.self.inside) past c.args.spec c.args.token (c.self.inside.accepted + 1) c.self.invariant.limits c.self.invariant.lawful.allowed next c.self.inside.rows c.self.inside.ready.items c.in-Ok.prepared.opening
    c.place.new.rows c.place.new.ready.items opens (rw (c.of-wanted.ensures, p.same.1) at c.in-Ok-place.ensures.places) c.self.invariant.stands)
    (counted_kept (setting_of c.self.inside) (Accept (c.self.inside.accepted + 1) c.args.spec (g.T.Token.plan c.args.token)) past c.self.invariant.counted refl refl (λ a flies. refl))
    (one_more_accepted (c.self.inside.accepted + 1) c.args.spec (g.T.Token.plan c.args.token) past ∙ sym next)
    c.self.invariant.destroyed
    (omega arith) (omega arith) (omega arith)
    _ _ p.room p.fits c.add.ensures.room (omega (arith, c.in-Ok-place.ensures.most, c.in-Ok-place.ensures.len, c.len.ensures, few_closed c.self.inside.closed))
    (omega (arith, p.room_ready, c.in-Ok-place.ensures.len, c.place.ensures.capacity, c.len.ensures))

pub returns-in-Ok-place-clause-done : goal.returns-in-Ok-place-clause-done
returns-in-Ok-place-clause-done g c =
    let past : Past = past_of (g.J.ChannelJournal.told c.self.inside.journal) in
    let next : c.self.inside.accepted + 1 ≡ length (accepted past) + 1 = omega (arith, c.self.invariant.accepts) in
    let p = c.in-Ok.ensures in
    let added : (g.J.ChannelJournal.told c.add.new.self) ≡ (g.J.ChannelJournal.told c.self.inside.journal) ++ record { seat = c.args.seat; by = c.args.by; what = Accept (c.self.inside.accepted + 1) c.args.spec (g.T.Token.plan c.args.token) } ∷ [] =
    rw (c.add.ensures.told, p.same.0, p.script) refl in
    rw (← c.self.view_is) (happens_one g.T.Token.plan g.J.ChannelJournal.told g.J.ChannelJournal.room (Accepts g.T.Token.plan c.args.spec c.args.token (Ok (c.self.inside.accepted + 1))) c.self.inside _ c.args.seat c.args.by
    (Accept (c.self.inside.accepted + 1) c.args.spec (g.T.Token.plan c.args.token)) refl added (invariant_of-self g c)
    (refl, c.self.invariant.destroyed ∙ c.if-self.false, next))

pub returns-in-Ok-place-clause-tokens : goal.returns-in-Ok-place-clause-tokens
returns-in-Ok-place-clause-tokens g c =
    let past : Past = past_of (g.J.ChannelJournal.told c.self.inside.journal) in
    let next : c.self.inside.accepted + 1 ≡ length (accepted past) + 1 = omega (arith, c.self.invariant.accepts) in
    let p = c.in-Ok.ensures in
    let opens : Opens (setting_of c.self.inside) (c.self.inside.accepted + 1) c.args.spec c.in-Ok.prepared.opening =
    subst (λ (r : Result Opening NoMemory). IfOk r (Opens (setting_of c.self.inside) (c.self.inside.accepted + 1) c.args.spec)) p.opening c.opening_of-opening.ensures in
    rw (← c.self.view_is) (tokens_placed g.T.Token.plan (setting_of c.self.inside) past c.self.invariant.lawful.allowed (c.self.inside.accepted + 1) next c.args.token c.self.inside.rows c.place.new.rows c.self.inside.ready.items c.place.new.ready.items c.self.invariant.stands
    c.self.inside.options.flags c.args.spec c.in-Ok.prepared.opening opens (rw (c.of-wanted.ensures, p.same.1) at c.in-Ok-place.ensures.places))
