use Rattle.channel_fleet.proofs.CallingLemmas.{route_below}
use Rattle.channel_fleet.proofs.fleet.Fleet.ask.Goals as goal

pub ask_nth-requires-clause-here : goal.ask_nth-requires-clause-here
ask_nth-requires-clause-here g c = rw (c.route-channel.ensures, ← c.channels.ensures.count) (route_below c.args.spec c.channels.result c.channels.ensures.some)
