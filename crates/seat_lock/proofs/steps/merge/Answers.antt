use Rattle.std.proofs.Common.{◌∙◌, sym, arith}
use Rattle.atomic_table.proofs.Lists.{set_else}
use Rattle.seat_lock.specs.Steps.{both}
use Rattle.seat_lock.proofs.ViewLemmas.{some_setting}
use Rattle.seat_lock.proofs.IdleLemmas.{merged}
use Rattle.seat_lock.proofs.steps.merge.Goals as goal

pub join_seat-requires : goal.join_seat-requires
join_seat-requires g c =
    let l = c.requires.idle.0 in let r = c.requires.idle.1 in
    let a = c.args.token.now in let b = c.args.other in (
      c.requires.table.0,
      c.requires.table.1,
      r.empty,
      omega (arith, c.requires.table.2),
      λ s k here ne there.
          let p = some_setting a.me.0.setting l.is_set in let q = some_setting b.me.0.setting r.is_set in
          merged g.S.Kept.stands g.S.Kept.maker g.S.Kept.setting c.args.shared.now.key s k a.id a.me.0 p.0 l.idle p.1 here b.id b.me.0 q.0 r.idle q.1 ne (sym (set_else s.views a.id b.id (both a.me.0 b.me.0) ne) ∙ there),
    )
