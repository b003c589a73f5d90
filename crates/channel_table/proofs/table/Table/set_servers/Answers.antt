use Rattle.channel_table.proofs.Base.{refl, sym, ap, arith, subst, ◌≡◌, ◌∙◌, ◌-◌, ◌^◌, ◌≤◌, Some, Ok, List, [], ◌∷◌, ◌++◌, length, map, false, filter, not, sum_by, Entry, What, Servers, ServerKey, Attempt, in_flight, Past, is_destroyed, past_of, MaySet, SetsServers, greatest_key, has_key, Setting, setting_of, left_in, row_set, ChannelServers}
use Rattle.channel_table.proofs.Keeping.{few_closed, happens_by, happens_same, kept_grown, kept_more, no_more}
use Rattle.channel_table.proofs.ServerLists.{counted_set, keys_apart, keys_are, may_become, set_count, sets_failed, set_length, table_set}
use Rattle.channel_table.proofs.TokenLemmas.{tokens_set}
use Rattle.channel_table.proofs.table.Table.set_servers.Goals as goal

pub renew-requires-clause-some : goal.renew-requires-clause-some
renew-requires-clause-some g c =
    let is = keys_are c.args.servers.now c.self.invariant.counted (rw c.as_slice.ensures at c.in_ok-list.ensures) in
    omega (arith, set_length (setting_of c.self.inside) (past_of (g.J.ChannelJournal.told c.self.inside.journal)) c.args.servers.now c.in_ok-list.list is, c.requires.some)

pub renew-requires-clause-few : goal.renew-requires-clause-few
renew-requires-clause-few g c =
    let is = keys_are c.args.servers.now c.self.invariant.counted (rw c.as_slice.ensures at c.in_ok-list.ensures) in
    omega (arith, set_length (setting_of c.self.inside) (past_of (g.J.ChannelJournal.told c.self.inside.journal)) c.args.servers.now c.in_ok-list.list is, c.requires.few)

pub renew-requires-clause-apart : goal.renew-requires-clause-apart
renew-requires-clause-apart g c =
    let is = keys_are c.args.servers.now c.self.invariant.counted (rw c.as_slice.ensures at c.in_ok-list.ensures) in
    keys_apart (setting_of c.self.inside) (past_of (g.J.ChannelJournal.told c.self.inside.journal)) c.args.servers.now c.in_ok-list.list is

pub invariant_of-self-in_err-renew : goal.invariant_of-self-in_err-renew
invariant_of-self-in_err-renew g c =
    kept_grown g.T.Token.plan g.J.ChannelJournal.told g.J.ChannelJournal.room c.self.inside _ (rw c.in_err-renew.ensures.err refl) c.room_for_entry.ensures.told c.room_for_entry.ensures.kept c.self.invariant

pub returns-in_err-renew-clause-done : goal.returns-in_err-renew-clause-done
returns-in_err-renew-clause-done g c =
    let past : Past = past_of (g.J.ChannelJournal.told c.self.inside.journal) in
    let setting : Setting = setting_of c.self.inside in
    let open_ : is_destroyed past ≡ false = c.self.invariant.destroyed ∙ c.if-self.false in
    let few : greatest_key setting past ≤ 2 ^ 32 - 9 = omega (arith, c.self.invariant.counted.keyed, c.if-self-gt-KEY_MOST.false) in
    rw (← c.self.view_is) (happens_same g.T.Token.plan g.J.ChannelJournal.told g.J.ChannelJournal.room (SetsServers c.args.servers.now c.from_residual-in_err-renew.result) c.self.inside (g.J.ChannelJournal.told c.room_for_entry.new.journal) c.args.seat 0 c.room_for_entry.ensures.told c.self.invariant
    (sets_failed c.args.servers.now c.from_residual-in_err-renew.result setting past c.from_residual-in_err-renew.ensures.1 open_ few))

pub invariant_of-self-2 : goal.invariant_of-self-2
invariant_of-self-2 g c =
    let past : Past = past_of (g.J.ChannelJournal.told c.self.inside.journal) in
    let setting : Setting = setting_of c.self.inside in
    let addresses = c.args.servers.now in
    let list : List ServerKey = c.in_ok-list.list in
    let is = keys_are c.args.servers.now c.self.invariant.counted (rw c.as_slice.ensures at c.in_ok-list.ensures) in
    let open_ : is_destroyed past ≡ false = c.self.invariant.destroyed ∙ c.if-self.false in
    let may = may_become setting past addresses list is open_ c.requires.some c.requires.few in
    let what : What = Servers list in
    let entry : Entry = record { seat = c.args.seat; by = 0; what = what } in
    let added : (g.J.ChannelJournal.told c.add.new.self) ≡ (g.J.ChannelJournal.told c.self.inside.journal) ++ entry ∷ [] = rw (c.add.ensures.told, c.room_for_entry.ensures.told, c.in_ok-kept.ensures, c.as_slice-2.ensures) refl in
    let room = c.in_ok-room_for_entry.ensures in
    let rows : c.set_list.new.self ≡ map (row_set list) c.self.inside.rows = c.set_list.ensures.rows ∙ ap (λ (l : List ServerKey). map (row_set l) c.self.inside.rows) (c.as_slice-4.ensures ∙ ap (λ (s : ChannelServers). s.list) c.in_ok-renew.ensures.ok) in
    kept_more g.T.Token.plan g.J.ChannelJournal.told g.J.ChannelJournal.room c.self.inside _ entry refl added c.self.invariant may
    (rw rows (table_set g.T.Token.plan setting past list c.self.inside.rows c.self.inside.ready.items c.self.invariant.stands))
    (rw c.in_ok-renew.ensures.ok (counted_set setting past list c.self.invariant.counted))
    (no_more what past refl ∙ c.self.invariant.accepts) c.self.invariant.destroyed
    (omega arith) (omega (arith, ap (λ (s : ChannelServers). s.greatest_link) c.in_ok-renew.ensures.ok)) (omega (arith, ap (λ (s : ChannelServers). s.started) c.in_ok-renew.ensures.ok))
    _ _ room.room room.fits c.add.ensures.room (omega (arith, c.len.ensures, c.len-2.ensures, c.set_list.ensures.len, few_closed c.self.inside.closed))
    (omega (arith, c.self.invariant.room_ready, c.set_list.ensures.len))

pub returns-clause-done : goal.returns-clause-done
returns-clause-done g c =
    let past : Past = past_of (g.J.ChannelJournal.told c.self.inside.journal) in
    let setting : Setting = setting_of c.self.inside in
    let addresses = c.args.servers.now in
    let list : List ServerKey = c.in_ok-list.list in
    let is = keys_are c.args.servers.now c.self.invariant.counted (rw c.as_slice.ensures at c.in_ok-list.ensures) in
    let open_ : is_destroyed past ≡ false = c.self.invariant.destroyed ∙ c.if-self.false in
    let may = may_become setting past addresses list is open_ c.requires.some c.requires.few in
    let what : What = Servers list in
    let entry : Entry = record { seat = c.args.seat; by = 0; what = what } in
    let added : (g.J.ChannelJournal.told c.add.new.self) ≡ (g.J.ChannelJournal.told c.self.inside.journal) ++ entry ∷ [] = rw (c.add.ensures.told, c.room_for_entry.ensures.told, c.in_ok-kept.ensures, c.as_slice-2.ensures) refl in
    let count : c.count_left-count.result ≡ sum_by (left_in list) c.self.inside.rows = c.count_left-count.ensures ∙ ap (λ (l : List ServerKey). sum_by (left_in l) c.self.inside.rows) c.as_slice-3.ensures in
    let few : greatest_key setting past ≤ 2 ^ 32 - 9 = omega (arith, c.self.invariant.counted.keyed, c.if-self-gt-KEY_MOST.false) in
    let told = count ∙ sym (set_count g.T.Token.plan setting past list c.self.inside.rows c.self.inside.ready.items c.self.invariant.stands) in
    let means : SetsServers addresses (Ok c.count_left-count.result) setting past (Some what) = subst (λ (l : List ServerKey). SetsServers addresses (Ok c.count_left-count.result) setting past (Some (Servers l))) (sym is)
    (refl, subst (MaySet setting past) is may, subst (λ (l : List ServerKey). c.count_left-count.result ≡ length (filter (λ (a : Attempt). not (has_key a.server l)) (in_flight setting past))) is told, λ full. omega (arith, few, full)) in
    rw (← c.self.view_is) (happens_by g.T.Token.plan g.J.ChannelJournal.told g.J.ChannelJournal.room (SetsServers addresses (Ok c.count_left-count.result)) c.self.inside (g.J.ChannelJournal.told c.add.new.self) c.args.seat 0 what added c.self.invariant may means)

pub returns-clause-tokens : goal.returns-clause-tokens
returns-clause-tokens g c =
    let rows : c.set_list.new.self ≡ map (row_set c.in_ok-list.list) c.self.inside.rows = c.set_list.ensures.rows ∙ ap (λ (l : List ServerKey). map (row_set l) c.self.inside.rows) (c.as_slice-4.ensures ∙ ap (λ (s : ChannelServers). s.list) c.in_ok-renew.ensures.ok) in
    rw (← c.self.view_is, rows) (tokens_set c.in_ok-list.list c.self.inside.rows c.self.inside.ready.items)
