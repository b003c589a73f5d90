use Rattle.channel_table.proofs.Base.{refl}
use Rattle.channel_table.proofs.LinkedLemmas.{none_linked}
use Rattle.channel_table.proofs.table.rows.Rows.complete_all.Goals as goal

pub invariant_of-self : goal.invariant_of-self
invariant_of-self g c = record {
  rising = rw c.complete_all.ensures.none tt;
  flown = rw c.complete_all.ensures.none (c.forget_all.ensures c.self.invariant.flown);
  linked = rw c.complete_all.ensures.none (none_linked g.row.T.Denot c.make.result c.make.ensures);
  listed = λ on. rw c.complete_all.ensures.none tt;
  tally = rw (c.complete_all.ensures.none, c.none-self-inside.ensures) (record { waiting = refl; flying = refl; forced = refl });
}
