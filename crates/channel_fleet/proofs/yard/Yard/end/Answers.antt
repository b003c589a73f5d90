use Rattle.std.proofs.Common.{arith}
use Rattle.channel_fleet.proofs.YardLemmas.{yard_ends}
use Rattle.channel_fleet.proofs.yard.Yard.end.Goals as goal

pub passes_of-passes-requires-clause-none : goal.passes_of-passes-requires-clause-none
passes_of-passes-requires-clause-none g c = c.requires.room.no_pass

pub passes_of-passes-requires-clause-room : goal.passes_of-passes-requires-clause-room
passes_of-passes-requires-clause-room g c = omega (arith, c.requires.room.passes, c.args.self.rows.ok.0)

pub end_all-parts-requires-clause-may_finish : goal.end_all-parts-requires-clause-may_finish
end_all-parts-requires-clause-may_finish g c = yard_ends c.requires.new.0 c.requires.new.1 c.args.self c.passes_of-passes.result.items c.requires.new.2 c.passes_of-passes.ensures

pub end_all-parts-requires-clause-none : goal.end_all-parts-requires-clause-none
end_all-parts-requires-clause-none g c = c.requires.room.no_part

pub end_all-parts-requires-clause-room : goal.end_all-parts-requires-clause-room
end_all-parts-requires-clause-room g c = omega (arith, c.requires.room.parts, c.args.self.channels.ok.0)
