-- Where a steersman stands.
use Rattle.chan_types.specs.declared.token.Token as token
use Rattle.channel_fleet.specs.Steering.{Steering, steering_of}
use Rattle.channel_fleet.specs.declared.steersman.Steersman.{Steersman}
use Rattle.channel_model.specs.declared.desk.Desk as desk
use Rattle.net_world.specs.declared.world.World as world
use Rattle.worker_session.specs.Turning.{turning_of}

module _ {B R J D W X : Type 0} {d : desk.Ghosts D X} {t : token.Ghosts X} {w : world.Ghosts W} where
  -- what makes its turns, by what its desk knows and what its network tells, and the rest
  abbrev pub man_at : Steersman B R J D W X d t w → Steering
  man_at man =
      steering_of man.caller (turning_of (d.known man.turner.desk) man.turner.runner man.turner.left man.turner.behind_turn man.turner.later man.turner.coming (w.log man.turner.world) (w.wait_faults man.turner.world)) man.board man.looked
