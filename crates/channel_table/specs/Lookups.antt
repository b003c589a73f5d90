-- One question of a request, as the table keeps it: what it says of its leg, and how entries change it.
use Rattle.std.specs.Prelude.{Bool, List, None, Option, Some, [], drop, false, get_or, if◌then◌else◌, is_some, min, not, option_map, option_to_list, true, ℕ, ◌&&◌, ◌+◌, ◌-◌, ◌==◌, ◌^◌, ◌||◌, ◌∷◌}
use Rattle.chan_types.specs.declared.status.Status.{Status}
use Rattle.channel_model.specs.Flight.{Attempt}
use Rattle.channel_model.specs.LegEnd.{LegEnd}
use Rattle.channel_model.specs.Legs.{Leg, leg_of}
use Rattle.channel_model.specs.declared.judged.Judged.{Judged}
use Rattle.query_machine.specs.Legs.{flying_in, leg_behind, status_in}
use Rattle.query_machine.specs.declared.leg.Flying.{Flying}
use Rattle.query_machine.specs.declared.leg.Leg as machine
use Rattle.channel_table.specs.Legs.{flown_by}
use Rattle.query_machine.specs.declared.leg.Phase.TheVariants as phases
use Rattle.channel_table.specs.declared.lookup.Asked.{Asked}
use Rattle.channel_table.specs.declared.lookup.Ended.{Ended}
use Rattle.channel_table.specs.declared.concerned.Concerned.{Concerned}
use Rattle.channel_table.specs.declared.concerned.Concerned.TheVariants.{First, Over, Second}
use Rattle.channel_table.specs.declared.lookup.Lookup.{Lookup}

-- the leg of a lookup
abbrev pub leg_of_lookup : Lookup → Leg
leg_of_lookup lookup = leg_of lookup.number lookup.leg_number

-- the number of its leg
abbrev pub number_of_leg : Lookup → ℕ
number_of_leg lookup = lookup.leg_number

-- its attempt that is in flight, as the table keeps it
abbrev pub flying_of : Lookup → Option Flying
flying_of lookup = flying_in lookup.leg.phase

-- its attempt that is in flight, if there is one
abbrev pub flown_lookup : Lookup → List Attempt
flown_lookup lookup = option_to_list (flown_by (leg_of_lookup lookup) (flying_of lookup))

-- an attempt of it is in flight
abbrev pub is_flying : Lookup → Bool
is_flying lookup = is_some (flying_of lookup)

-- an attempt went to this server over this link
abbrev pub flying_over : ℕ → ℕ → Option Flying → Bool
flying_over server link None = false
flying_over server link (Some flying) = (flying.server == server) && (flying.link == link)

-- its attempt went to this server over this link
abbrev pub flew_over : ℕ → ℕ → Lookup → Bool
flew_over server link lookup = flying_over server link (flying_of lookup)

-- its leg waits: it isn't in flight and hasn't ended
abbrev pub waits : Lookup → Bool
waits lookup = not (is_some (flying_of lookup) || is_some (status_in lookup.leg.phase))

-- its leg, where that waits
abbrev pub waits_of : Lookup → List Leg
waits_of lookup = if waits lookup then leg_of_lookup lookup ∷ [] else []

-- its leg has a server that its next attempt has to go to
abbrev pub is_forced : Lookup → Bool
is_forced lookup = is_some lookup.leg.forced

-- how its leg has ended
abbrev pub end_of_lookup : Lookup → Option LegEnd
end_of_lookup lookup = option_map (λ (s : Status). record { status = s; reply = lookup.reply }) (status_in lookup.leg.phase)

-- the end of a leg as channel_model has it
abbrev pub ended_seen : Ended → LegEnd
ended_seen ended = record { status = ended.status; reply = ended.reply.now }

-- the second lookup of a row, or the first
abbrev pub concerned_at : Bool → Concerned
concerned_at second = if second then Second else First

-- an entry concerns a lookup, which is the second of its row or the first
abbrev pub concerns : Concerned → Bool → Lookup → Bool
concerns First second lookup = not second && is_flying lookup
concerns Second second lookup = second && is_flying lookup
concerns (Over server link) second lookup = flew_over server link lookup

-- the lookup behind the end of its attempt, which meant this and came with this reply, where a leg may spend so many
abbrev pub closed_lookup : Judged → List ℕ → ℕ → Lookup → Lookup
closed_lookup judged reply most lookup = record lookup { leg = leg_behind judged most lookup.leg; reply = reply }

-- the same, if the entry concerns it
abbrev pub lookup_behind : Concerned → Bool → Judged → List ℕ → ℕ → Lookup → Lookup
lookup_behind concerned second judged reply most lookup = if concerns concerned second lookup then closed_lookup judged reply most lookup else lookup

-- the lookup asks the next candidate by this leg, if there is one; the numbers of legs stop at the greatest of 8 bits
abbrev pub next_lookup : machine.Leg → Lookup → Lookup
next_lookup leg lookup = record lookup {
  leg_number = min (lookup.leg_number + 2) (2 ^ 8 - 1);
  question = record lookup.question { name = get_or lookup.names 0 lookup.question.name };
  names = drop 1 lookup.names;
  leg = leg;
  begun = false;
  reply = [];
}

-- a lookup whose leg has had no attempt, and which asks this
abbrev pub new_lookup : ℕ → ℕ → Asked → machine.Leg → Lookup
new_lookup number leg_number asked leg = record {
  number = number;
  leg_number = leg_number;
  question = asked.question;
  names = asked.names;
  leg = leg;
  begun = false;
  reply = [];
}

-- the same names for another kind
abbrev pub asked_with_kind : ℕ → Asked → Asked
asked_with_kind kind asked = record asked { question = record asked.question { kind = kind } }

-- the lookup with this attempt in flight
abbrev pub begun_lookup : Flying → Lookup → Lookup
begun_lookup flying lookup = record lookup { leg = record lookup.leg { phase = phases.InFlight flying }; begun = true }
