use Rattle.std.proofs.Common.{arith}
use Rattle.seat_lock.proofs.ViewLemmas.{some_setting}
use Rattle.seat_lock.proofs.MakingLemmas.{split}
use Rattle.seat_lock.proofs.making.add_seat.Goals as goal

pub split_seat-requires : goal.split_seat-requires
split_seat-requires g c =
    let m = c.requires.makes in (
      c.requires.table.0,
      omega (arith, c.requires.table.1),
      λ s k here. let is = some_setting c.args.token.now.me.0.setting m.2 in split g.S.Kept.stands g.S.Kept.maker g.S.Kept.setting c.args.shared.now.key s k c.args.token.now.id c.args.token.now.me.0 is.0 is.1 here m.0.0 m.0.1 m.0.2 m.1,
    )
