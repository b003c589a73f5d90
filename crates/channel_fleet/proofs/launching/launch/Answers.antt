use Rattle.std.proofs.Common.{arith}
use Rattle.channel_fleet.proofs.MakingLemmas.{manned, options_fit, seats_fit}
use Rattle.channel_fleet.proofs.launching.launch.Goals as goal

pub man-berths-requires-clause-row : goal.man-berths-requires-clause-row
man-berths-requires-clause-row g c = seats_fit _ c.in-Ok.ensures (omega arith) (omega (arith, c.in_ok-gear.ensures.room.1))

pub man-berths-requires-clause-options : goal.man-berths-requires-clause-options
man-berths-requires-clause-options g c = options_fit _ c.in-Ok.ensures c.in_ok-gear.ensures.options

pub returns-in-Ok-clause-new : goal.returns-in-Ok-clause-new
returns-in-Ok-clause-new g c = manned c.args.callers c.args.setup c.in-Ok.channel c.in-Ok.passes.items c.man-berths.result.0.items c.man-berths.result.1 c.in-Ok.ensures c.man-berths.ensures
