use Rattle.std.proofs.Common.{arith}
use Rattle.channel_fleet.proofs.yard.Yard.into_fleet.Goals as goal

pub passes_of-passes-requires-clause-none : goal.passes_of-passes-requires-clause-none
passes_of-passes-requires-clause-none g c = c.requires.room.no_pass

pub passes_of-passes-requires-clause-room : goal.passes_of-passes-requires-clause-room
passes_of-passes-requires-clause-room g c = omega (arith, c.requires.room.passes, c.args.self.rows.ok.0)
