use Rattle.std.proofs.Common.{arith}
use Rattle.fleet_session.proofs.SessionLemmas.{helms_many}
use Rattle.fleet_session.proofs.session.run_fleet.Goals as goal

pub serve_fleet-front-requires-clause-as_many : goal.serve_fleet-front-requires-clause-as_many
serve_fleet-front-requires-clause-as_many g c κs within = omega (arith, helms_many 1 c.args.setups.items _ _ c.in-Ok-make.helms.items c.in-Ok-make.ensures.channels, c.requires.as_many, c.args.setups.ok.0, c.in-Ok-make.helms.ok.0)

pub serve_fleet-front-requires-clause-room : goal.serve_fleet-front-requires-clause-room
serve_fleet-front-requires-clause-room g c κs within =
    let many = helms_many 1 c.args.setups.items _ _ c.in-Ok-make.helms.items c.in-Ok-make.ensures.channels in (
      omega (arith, many, c.args.setups.ok.0, c.in-Ok-make.helms.ok.0, c.len-channels.ensures, c.in-Ok-with_capacity.ensures.capacity),
      omega (arith, many, c.args.setups.ok.0, c.in-Ok-make.helms.ok.0, c.len-channels.ensures, c.in-Ok.ensures.capacity),
    )
