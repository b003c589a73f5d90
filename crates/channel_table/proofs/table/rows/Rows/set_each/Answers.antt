use Rattle.channel_table.proofs.Base.{◌≡◌, true, false, subst, sym, IsRising}
use Rattle.channel_table.proofs.IndexLemmas.{set_numbers}
use Rattle.channel_table.proofs.table.rows.Rows.set_each.Goals as goal

pub invariant_of-self : goal.invariant_of-self
invariant_of-self g c = record {
  rising = rw c.set_rows.ensures.items (subst IsRising (sym (set_numbers c.args.list.now c.self.inside.list.items)) c.self.invariant.rising);
  flown = rw c.set_rows.ensures.items (c.forget_left.ensures c.self.invariant.flown);
  linked = rw c.set_rows.ensures.items (c.end_left.ensures c.self.invariant.linked);
  listed = λ on. absurd (let t : true ≡ false = on in cc);
  tally = c.of_rows-self-inside.ensures;
}
