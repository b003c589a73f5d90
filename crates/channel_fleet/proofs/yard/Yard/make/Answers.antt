use Rattle.std.proofs.Common.{arith}
use Rattle.channel_fleet.proofs.YardLemmas.{room_new, yard_new}
use Rattle.channel_fleet.proofs.yard.Yard.make.Goals as goal

pub returns-in-Ok-clause-new : goal.returns-in-Ok-clause-new
returns-in-Ok-clause-new g c = yard_new c.args.callers c.args.channels _ c.in-Ok.ensures.items c.in_ok-helms.ensures.items c.in_ok-rows.ensures.rows c.in_ok-rows.ensures.len

pub returns-in-Ok-clause-room : goal.returns-in-Ok-clause-room
returns-in-Ok-clause-room g c =
    room_new c.args.channels _ c.in-Ok.ensures.items c.in_ok-helms.ensures.items c.in_ok-passes.ensures.items c.in_ok-parts.ensures.items
    c.in-Ok.ensures.capacity c.in_ok-helms.ensures.capacity c.in_ok-parts.ensures.capacity (omega (arith, c.in_ok-rows.ensures.len, c.in_ok-passes.ensures.capacity)) c.in_ok-rows.ensures.rows
