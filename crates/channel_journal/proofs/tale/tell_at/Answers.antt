use Rattle.std.proofs.Common.{[], ◌∷◌, ◌++◌, arith, refl}
use Rattle.atomic_table.specs.Table.{keeps}
use Rattle.channel_journal.proofs.tale.tell_at.Goals as goal

pub load-requires : goal.load-requires
load-requires g c = (
  c.requires.0,
  omega (arith, c.requires.1),
  λ s k len here fits. (c.args.seat.now.me.0 ++ g.T.Told.entry ∷ [], keeps, tt, tt, refl),
)
