use Rattle.std.proofs.Common.{rules}
use Rattle.std.proofs.lemmas.Bool.{ne_eqb}
use Rattle.leg_index.proofs.FlightLemmas.{not_yet}
use Rattle.leg_index.proofs.fresh.position.Goals as goal

-- the attempt at this index has another identifier
pub loop-index-preserved : goal.loop-index-preserved
loop-index-preserved c = not_yet c.args.id c.index.result.now (ne_eqb _ _ c.if-id-index.false) c.args.fresh.now.items c.loop-index.index (search rules) c.index.ensures c.loop-index.invariant
