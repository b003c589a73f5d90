use Rattle.std.proofs.Common.{arith, refl}
use Rattle.channel_fleet.proofs.yard.Yard.add.Goals as goal

pub give_each-requires-clause-room : goal.give_each-requires-clause-room
give_each-requires-clause-room g c = c.requires.room.rows

pub push_reserved-requires : goal.push_reserved-requires
push_reserved-requires g c = omega (arith, c.requires.room.helms, c.args.self.now.helms.ok.0)

pub push_reserved-requires-2 : goal.push_reserved-requires-2
push_reserved-requires-2 g c = omega (arith, c.requires.room.channels, c.args.self.now.channels.ok.0)

pub returns : goal.returns
returns g c = record {
  channels = c.push_reserved-2.ensures.items;
  helms = c.push_reserved.ensures.items;
  rows = c.give_each.ensures.items;
  rest = (refl, refl);
  channels_room = c.push_reserved-2.ensures.capacity;
  helms_room = c.push_reserved.ensures.capacity;
  rows_room = c.give_each.ensures.room;
}
