-- All that a past says of a leg that hasn't ended and that its next steps depend on, as one value, and how entries change it.
use Rattle.std.specs.Prelude.{Bool, List, None, Option, Some, cond, if◌then◌else◌, not, option_map, ℕ, ◌&&◌, ◌+◌, ◌||◌}
use Rattle.chan_types.specs.declared.journal.What.TheVariants.{Servers}
use Rattle.chan_types.specs.declared.server_key.ServerKey.{ServerKey}
use Rattle.channel_model.specs.Choice.{deadline}
use Rattle.channel_model.specs.Flight.{Attempt, flight}
use Rattle.channel_model.specs.Journal.{Past}
use Rattle.channel_model.specs.Legs.{Leg}
use Rattle.channel_model.specs.Past.{closings, forced_server, has_opt, if_left, is_failed, is_next_plain, is_next_tcp, is_over_tcp, spent}
use Rattle.channel_model.specs.Servers.{has_key}
use Rattle.channel_model.specs.Setting.{Setting}
use Rattle.channel_model.specs.declared.judged.Judged.{Judged}

-- a leg: its attempt in flight and when that is due, the attempts that it has spent, whether it asks over TCP and with an OPT record, and the server that its next attempt has to go to
pub record LegFacts : Type 0 where
  pub flies : Option Attempt
  pub due : Option ℕ
  pub spends : ℕ
  pub over_tcp : Bool
  pub with_opt : Bool
  pub forced : Option ℕ

-- what a past says of a leg
abbrev pub leg_facts : Setting → Leg → Past → LegFacts
leg_facts setting leg past = record {
  flies = flight setting leg past;
  due = option_map (λ a. deadline setting leg past) (flight setting leg past);
  spends = spent (closings setting leg past);
  over_tcp = is_over_tcp setting (closings setting leg past);
  with_opt = has_opt setting (closings setting leg past);
  forced = forced_server setting leg past;
}

-- a leg behind the Start of this attempt, which is due then
abbrev pub facts_begun : Attempt → ℕ → LegFacts → LegFacts
facts_begun a due facts = record facts { flies = Some a; due = Some due }

-- a leg behind the end of its attempt at this server, with this outcome
abbrev pub facts_closed : ℕ → Option Judged → LegFacts → LegFacts
facts_closed server outcome facts = record {
  flies = None;
  due = None;
  spends = cond (is_failed outcome) 1 0 + facts.spends;
  over_tcp = is_next_tcp outcome || facts.over_tcp;
  with_opt = not (is_next_plain outcome) && facts.with_opt;
  forced = if is_next_tcp outcome || is_next_plain outcome then Some server else None;
}

-- a leg behind a new list of servers, where this attempt was in flight: the attempt ends if its server left the list, and the next one doesn't have to go to a server that left it
abbrev pub facts_set : List ServerKey → Option Attempt → LegFacts → LegFacts
facts_set list None facts = record facts { forced = if_left (Servers list) facts.forced }
facts_set list (Some a) facts = if has_key a.server list then record facts { forced = if_left (Servers list) facts.forced } else facts_closed a.server None facts
