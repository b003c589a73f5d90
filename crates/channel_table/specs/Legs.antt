-- What the state of a leg means: what the past says of the leg.
use Rattle.std.specs.Prelude.{List, None, Option, option_map, ℕ, ◌<◌, ◌≡◌}
use Rattle.chan_types.specs.declared.status.Status.{Status}
use Rattle.channel_model.specs.Flight.{Attempt}
use Rattle.channel_model.specs.Journal.{Past}
use Rattle.channel_model.specs.LegEnd.{leg_end}
use Rattle.channel_model.specs.LegFacts.{LegFacts, leg_facts}
use Rattle.channel_model.specs.Legs.{Leg}
use Rattle.channel_model.specs.Setting.{Setting}
use Rattle.query_machine.specs.Legs.{flying_in, status_in}
use Rattle.query_machine.specs.declared.leg.Flying.{Flying}
use Rattle.query_machine.specs.declared.leg.Leg as machine

-- an attempt in flight as its Start tells it
abbrev pub attempt_of : Leg → Flying → Attempt
attempt_of leg flying = record { leg = leg; server = flying.server; link = flying.link; id = flying.id; mix = flying.mix; moment = flying.moment }

-- the attempt that a leg has in flight
abbrev pub flown_by : Leg → Option Flying → Option Attempt
flown_by leg flying = option_map (attempt_of leg) flying

-- all that the state of a leg says
abbrev pub facts_of : Leg → machine.Leg → LegFacts
facts_of leg state = record {
  flies = flown_by leg (flying_in state.phase);
  due = option_map (λ flying. flying.due) (flying_in state.phase);
  spends = state.spent;
  over_tcp = state.over_tcp;
  with_opt = state.has_opt;
  forced = state.forced;
}

-- the past says of a leg what its state is, and that this reply ended it where it has ended; where it hasn't, it has spent fewer attempts than 10 tries of 8 servers
pub record LegStands (setting : Setting) (past : Past) (leg : Leg) (state : machine.Leg) (reply : List ℕ) : Type 0 where
  pub facts : leg_facts setting leg past ≡ facts_of leg state
  pub ends : leg_end setting leg past ≡ option_map (λ (s : Status). record { status = s; reply = reply }) (status_in state.phase)
  pub few : status_in state.phase ≡ None → state.spent < 80
