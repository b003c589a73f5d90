use Rattle.leg_index.proofs.FlightLemmas.{once_over, pushed_over, same_over}
use Rattle.leg_index.proofs.flights.add_fresh.Goals as goal

-- the map has no room, or the row
pub returns-in_err-reserve-clause-once : goal.returns-in_err-reserve-clause-once
returns-in_err-reserve-clause-once c = once_over c.args.fresh.now.items c.args.legs.now c.reserve.new.self c.reserve.ensures.entries.2 c.requires.once

-- the attempt stands behind the others
pub returns-clause-once : goal.returns-clause-once
returns-clause-once c = (pushed_over c.args.fresh.now.items c.args.legs.now c.reserve.new.self c.reserve.ensures.entries.2 c.requires.once c.args.attempt c.requires.free c.push_back.new.self.items c.in_ok-push_back.ensures.items).1

pub returns-clause-ok : goal.returns-clause-ok
returns-clause-ok c = (pushed_over c.args.fresh.now.items c.args.legs.now c.reserve.new.self c.reserve.ensures.entries.2 c.requires.once c.args.attempt c.requires.free c.push_back.new.self.items c.in_ok-push_back.ensures.items).0
