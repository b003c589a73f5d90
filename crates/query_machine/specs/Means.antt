-- What the state of a leg says by a journal.
use Rattle.std.specs.Prelude.{None, Option, option_map, ◌-◌, ◌<◌, ◌^◌, ◌≡◌}
use Rattle.chan_types.specs.declared.status.Status.{Status}
use Rattle.channel_model.specs.Flight.{Attempt}
use Rattle.channel_model.specs.Journal.{Past}
use Rattle.channel_model.specs.LegEnd.{leg_end}
use Rattle.channel_model.specs.LegFacts.{LegFacts, leg_facts}
use Rattle.channel_model.specs.Legs as model
use Rattle.channel_model.specs.Setting.{Setting}
use Rattle.query_machine.specs.Legs.{flying_in, status_in}
use Rattle.query_machine.specs.declared.leg.Flying.{Flying}
use Rattle.query_machine.specs.declared.leg.Leg.{Leg}

-- an attempt in flight as the channel's model has it
abbrev pub attempt_of : model.Leg → Flying → Attempt
attempt_of leg flying = record { leg = leg; server = flying.server; link = flying.link; id = flying.id; mix = flying.mix; moment = flying.moment }

-- the state of a leg as the channel's model has it
abbrev pub facts_of : model.Leg → Leg → LegFacts
facts_of leg state = record {
  flies = option_map (attempt_of leg) (flying_in state.phase);
  due = option_map (λ flying. flying.due) (flying_in state.phase);
  spends = state.spent;
  over_tcp = state.over_tcp;
  with_opt = state.has_opt;
  forced = state.forced;
}

-- the status with which a leg has ended
abbrev pub end_status : Setting → model.Leg → Past → Option Status
end_status setting leg past = option_map (λ end. end.status) (leg_end setting leg past)

-- the state is what a past says of the leg: its attempt in flight and when that is due, its spent attempts, transport, OPT record and forced server, and how it has ended
pub record LegMeans (setting : Setting) (past : Past) (leg : model.Leg) (state : Leg) : Type 0 where
  pub facts : leg_facts setting leg past ≡ facts_of leg state
  pub ended : end_status setting leg past ≡ status_in state.phase
  -- where it hasn't ended, 32 bits can count one attempt more
  pub few : status_in state.phase ≡ None → state.spent < 2 ^ 32 - 1
