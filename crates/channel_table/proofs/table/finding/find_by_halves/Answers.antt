use Rattle.channel_table.proofs.Base.{ap, arith, subst, ◌<◌, Row}
use Rattle.channel_table.proofs.ListedLemmas.{lower_half, none_between, upper_half}
use Rattle.channel_table.proofs.table.finding.find_by_halves.Goals as goal

pub loop-low-preserved-then-here-number-2 : goal.loop-low-preserved-then-here-number-2
loop-low-preserved-then-here-number-2 g c = record {
  order = omega (arith, c.middle_of-middle.ensures.below);
  inside = c.loop-low.invariant.inside;
  below = lower_half c.args.rows.now.items c.args.number c.middle_of-middle.result c.row_at.result.now c.requires (omega (arith, c.middle_of-middle.ensures.below, c.loop-low.invariant.inside)) c.row_at.ensures (subst (λ (r : Row g.row.T.Denot). r.number < c.args.number) c.row_at.ensures c.if-here-number-2.true);
  above = c.loop-low.invariant.above;
}

pub loop-low-preserved : goal.loop-low-preserved
loop-low-preserved g c = record {
  order = c.middle_of-middle.ensures.from;
  inside = omega (arith, c.middle_of-middle.ensures.below, c.loop-low.invariant.inside);
  below = c.loop-low.invariant.below;
  above = upper_half c.args.rows.now.items c.args.number c.middle_of-middle.result c.row_at.result.now c.requires (omega (arith, c.middle_of-middle.ensures.below, c.loop-low.invariant.inside)) c.row_at.ensures
      (omega (arith, c.if-here-number.false, c.if-here-number-2.false, ap (λ (r : Row g.row.T.Denot). r.number) c.row_at.ensures));
}

pub returns : goal.returns
returns g c = none_between c.args.rows.now.items c.args.number c.loop-low.low c.loop-low.high (omega (arith, c.loop-low-test.false)) c.loop-low.invariant.below c.loop-low.invariant.above
