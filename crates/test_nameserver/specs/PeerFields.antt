-- What the fields of a network in memory stand for, and what is true of them. Machinery, which no promise speaks of.
use Rattle.std.specs.List.{AllByRecursion}
use Rattle.std.specs.Prelude.{◌≤◌}
use Rattle.net_world.specs.Script.{MayCome}
use Rattle.test_nameserver.specs.Heard.{keys_of}
use Rattle.test_nameserver.specs.Peer.{PeerState, at_start}
use Rattle.test_nameserver.specs.PeerLog.{AreMade}
use Rattle.test_nameserver.specs.declared.peer_world.PeerWorld.TheInside.{Inside}

-- the network stands where the calls of its log lead from its start
pub record IsReached (state : PeerState) : Type 0 where
  pub made : AreMade state.log (at_start state.zone state.seed) state

-- where the network stands
abbrev pub state_of : Inside → PeerState
state_of world = record {
  zone = world.zone;
  seed = world.seed;
  asked = keys_of world.asked;
  items = world.items.items;
  links = world.links.items;
  drawn = world.drawn;
  clock = world.clock;
  reading = world.reading;
  log = world.log.items;
}

-- the clock was read at its moment or before, what can be received may come, and the calls of the log led here
pub record IsSound (world : Inside) : Type 0 where
  pub read : world.reading ≤ world.clock
  pub come : AllByRecursion MayCome world.items.items
  pub reached : IsReached (state_of world)
