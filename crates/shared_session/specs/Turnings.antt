-- What a turner that is a pump has, as its session sees it.
use Rattle.std.specs.Prelude.{◌≡◌}
use Rattle.chan_types.specs.declared.token.Token as token
use Rattle.channel_model.specs.Known.{Known}
use Rattle.channel_model.specs.declared.desk.Desk as desk
use Rattle.net_world.specs.declared.world.World as world
use Rattle.turner_rounds.specs.Pumping.{HasEnded, Pumps}
use Rattle.turner_rounds.specs.declared.pump.TurnerPump.{TurnerPump}
use Rattle.worker_session.specs.Turning.{Turning, turning_of}

module _ {D W X : Type 0} {d : desk.Ghosts D X} {t : token.Ghosts X} {w : world.Ghosts W} where
  -- its turner, by what its desk knows and what its network tells
  abbrev pub turning_at : TurnerPump D W X d t w → Turning
  turning_at pump =
      turning_of (d.known pump.turner.desk) pump.turner.runner pump.turner.left pump.turner.behind_turn pump.turner.later pump.turner.coming (w.log pump.turner.world) (w.wait_faults pump.turner.world)

  -- what it does as a pump: its turner goes on over the same network, and the owner's desk stays as it is
  abbrev pub steps_at : TurnerPump D W X d t w → Known → TurnerPump D W X d t w → Known → Type 0
  steps_at old before new behind = Pumps (turning_at old) before (turning_at new) behind × (w.origin new.turner.world ≡ w.origin old.turner.world)

  -- all is done, as far as it sees
  abbrev pub ends_at : TurnerPump D W X d t w → Known → Type 0
  ends_at pump known = HasEnded (turning_at pump)
