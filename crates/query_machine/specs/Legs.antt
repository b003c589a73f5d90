-- How a leg goes on: behind the beginning and the end of an attempt, and where a server leaves the list.
use Rattle.std.specs.Prelude.{Bool, List, None, Option, Some, [], cond, false, if◌then◌else◌, min, not, option_and_then, ℕ, ⊤, ◌&&◌, ◌+◌, ◌-◌, ◌==◌, ◌^◌, ◌||◌, ◌∷◌}
use Rattle.std.specs.Bool.{then_some}
use Rattle.chan_types.specs.declared.status.Status.{Status}
use Rattle.channel_model.specs.LegEnd.{ending_status}
use Rattle.channel_model.specs.Past.{is_failed, is_next_plain, is_next_tcp}
use Rattle.channel_model.specs.declared.judged.Judged.{Judged}
use Rattle.query_machine.specs.declared.leg.Flying.{Flying}
use Rattle.query_machine.specs.declared.leg.Leg.{Leg}
use Rattle.query_machine.specs.declared.leg.Phase.{Phase}
use Rattle.query_machine.specs.declared.leg.Phase.TheVariants as phases
use Rattle.resolv_options.specs.declared.flags.Flags.{Flags}

-- a leg without an attempt, where these are the channel's flags
abbrev pub fresh_leg : Flags → Leg
fresh_leg flags = record { phase = phases.Waiting; spent = 0; over_tcp = flags.usevc; has_opt = flags.edns; forced = None }

-- the attempt in flight
abbrev pub flying_in : Phase → Option Flying
flying_in phases.Waiting = None
flying_in (phases.InFlight flying) = Some flying
flying_in (phases.Ended status) = None

-- the status with which a leg has ended
abbrev pub status_in : Phase → Option Status
status_in phases.Waiting = None
status_in (phases.InFlight flying) = None
status_in (phases.Ended status) = Some status

-- the leg waits
abbrev pub IsWaiting : Phase → Type 0
IsWaiting phases.Waiting = ⊤
IsWaiting (phases.InFlight flying) = ⊥
IsWaiting (phases.Ended status) = ⊥

-- the leg is in flight
abbrev pub IsInFlight : Phase → Type 0
IsInFlight phases.Waiting = ⊥
IsInFlight (phases.InFlight flying) = ⊤
IsInFlight (phases.Ended status) = ⊥

-- an attempt that begins at a moment and is given so long: moments stop at the greatest of 64 bits
abbrev pub attempt_from : ℕ → ℕ → ℕ → Option ℕ → ℕ → ℕ → Flying
attempt_from server link id mix at wait =
    record { server = server; link = link; id = id; mix = mix; moment = at; due = min (at + wait) (2 ^ 64 - 1) }

-- the attempts that are spent behind an end of an attempt; the count stops at the greatest of 32 bits
abbrev pub spent_with : Judged → ℕ → ℕ
spent_with outcome spent = min (spent + cond (is_failed (Some outcome)) 1 0) (2 ^ 32 - 1)

-- the leg has ended with a status, or waits again
abbrev pub phase_with : Option Status → Phase
phase_with None = phases.Waiting
phase_with (Some status) = phases.Ended status

-- the server that the next attempt has to go to, where the last one's end on this server meant this
abbrev pub forced_with : Judged → Option Flying → Option ℕ
forced_with outcome flying = option_and_then (λ attempt. then_some (is_next_tcp (Some outcome) || is_next_plain (Some outcome)) attempt.server) flying

-- the leg behind the end of its attempt, which meant this, where it may spend so many
abbrev pub leg_behind : Judged → ℕ → Leg → Leg
leg_behind outcome most leg =
    let spent : ℕ = spent_with outcome leg.spent in
    record {
      phase = phase_with (ending_status (Some outcome) spent most);
      spent = spent;
      over_tcp = leg.over_tcp || is_next_tcp (Some outcome);
      has_opt = leg.has_opt && not (is_next_plain (Some outcome));
      forced = forced_with outcome (flying_in leg.phase);
    }

-- the attempt in flight went to the server
abbrev pub flies_to : ℕ → Option Flying → Bool
flies_to server None = false
flies_to server (Some flying) = flying.server == server

-- the server, where it isn't this one
abbrev pub unless_server : ℕ → Option ℕ → Option ℕ
unless_server server None = None
unless_server server (Some forced) = if forced == server then None else Some forced

-- the leg behind a list of servers that lacks this one: an attempt there has ended and means nothing, and no server is forced that is gone
abbrev pub leg_without : ℕ → Leg → Leg
leg_without server leg =
    if flies_to server (flying_in leg.phase) then record leg { phase = phases.Waiting; forced = None } else
    record leg { forced = unless_server server leg.forced }

-- the leg behind a list of servers that lacks these
abbrev pub leg_without_each : List ℕ → Leg → Leg
leg_without_each [] leg = leg
leg_without_each (server ∷ servers) leg = leg_without_each servers (leg_without server leg)
