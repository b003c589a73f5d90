use Rattle.std.proofs.Common.{◌≡◌, ◌∙◌, sym, subst, Some, None}
use Rattle.seat_lock.specs.History.{HasAll}
use Rattle.seat_lock.proofs.CloseLemmas.{found_is}
use Rattle.seat_lock.proofs.LeaveLemmas.{same_some}
use Rattle.seat_lock.proofs.lock.SeatLock.close.Goals as goal

pub unreachable-requires : goal.unreachable-requires
unreachable-requires g c =
    let t = c.seat.inside.token in let i = c.seat.invariant.1 in
    let f = found_is g.S.Kept.stands g.S.Kept.maker g.S.Kept.setting c.self.inside.table.shared.key t.table_id t.id t.me.0 _ _ c.take-found.result i.idle i.is_set i.aware (subst HasAll (sym c.seat.view_is) c.requires.all) c.close_with-closed.ensures.values.2 c.take-found.ensures.value in
    let no : None ≡ Some f.0 = sym c.in-None.is ∙ f.1 in absurd (cc)

pub returns-clause-history : goal.returns-clause-history
returns-clause-history g c =
    let t = c.seat.inside.token in let i = c.seat.invariant.1 in
    let f = found_is g.S.Kept.stands g.S.Kept.maker g.S.Kept.setting c.self.inside.table.shared.key t.table_id t.id t.me.0 _ _ c.take-found.result i.idle i.is_set i.aware (subst HasAll (sym c.seat.view_is) c.requires.all) c.close_with-closed.ensures.values.2 c.take-found.ensures.value in
    rw (← c.seat.view_is, same_some c.in-Some.state f.0 (sym c.in-Some.is ∙ f.1)) f.2

pub returns-clause-setting : goal.returns-clause-setting
returns-clause-setting g c =
    let t = c.seat.inside.token in let i = c.seat.invariant.1 in
    let f = found_is g.S.Kept.stands g.S.Kept.maker g.S.Kept.setting c.self.inside.table.shared.key t.table_id t.id t.me.0 _ _ c.take-found.result i.idle i.is_set i.aware (subst HasAll (sym c.seat.view_is) c.requires.all) c.close_with-closed.ensures.values.2 c.take-found.ensures.value in
    rw (← c.seat.view_is, same_some c.in-Some.state f.0 (sym c.in-Some.is ∙ f.1)) f.3
