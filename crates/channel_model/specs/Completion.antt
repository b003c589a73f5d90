-- When a request completes, and with which answer; and which requests and legs wait.
use Rattle.std.specs.Option.{option_or}
use Rattle.std.specs.Prelude.{ℕ, Option, option_map, [], List, map, ◌∷◌, if◌then◌else◌, ◌==◌, ◌+◌, None, Some, ◌++◌, option_to_list, Bool, is_none, filter, is_some, ◌&&◌, unwrap_or, flat_map}
use Rattle.chan_types.specs.declared.answer.Answer.{Answer}
use Rattle.chan_types.specs.declared.journal.What.{What}
use Rattle.chan_types.specs.declared.journal.What.TheVariants.{Accept, Cancel, Destroy, Take, Start, Arrive, Expire, Fault, Servers}
use Rattle.chan_types.specs.declared.spec.Spec.{Spec}
use Rattle.chan_types.specs.declared.status.Status.{Status}
use Rattle.chan_types.specs.declared.status.Status.TheVariants.{Cancelled, Destruction}
use Rattle.channel_model.specs.AtOnce.{at_once}
use Rattle.channel_model.specs.Flight.{flight}
use Rattle.channel_model.specs.Journal.{Past, spec_of, accepted}
use Rattle.channel_model.specs.LegEnd.{leg_end}
use Rattle.channel_model.specs.Legs.{Leg, leg_of, legs_of}
use Rattle.channel_model.specs.Merge.{bare}
use Rattle.channel_model.specs.Search.{search_answer, Stand, asking, over, stand_of}
use Rattle.channel_model.specs.Setting.{Setting}

-- an answer with a status alone, for an accepted request
abbrev pub bare_if_accepted : ℕ → Status → Past → Option Answer
bare_if_accepted request status past = option_map (λ spec. bare request status []) (spec_of request past)

-- the numbers of the accepted requests, in order
abbrev pub requests : Past → List ℕ
requests past = map (λ request. request.number) (accepted past)

-- the list without the first item that is this one
abbrev pub without : ℕ → List ℕ → List ℕ
without number [] = []
without number (other ∷ rest) = if number == other then rest else other ∷ without number rest

-- how often a number stands in a list
abbrev pub occurrences : ℕ → List ℕ → ℕ
occurrences number [] = 0
occurrences number (n ∷ numbers) = if n == number then occurrences number numbers + 1 else occurrences number numbers

-- the request that an entry takes
abbrev pub taken_by : What → Option ℕ
taken_by (Accept number spec script) = None
taken_by Cancel = None
taken_by Destroy = None
taken_by (Take number) = Some number
taken_by (Start number leg server link id mix moment) = None
taken_by (Arrive server link bytes) = None
taken_by (Expire number leg moment) = None
taken_by (Fault server link moment) = None
taken_by (Servers list) = None

-- the requests that were taken, in order
abbrev pub taken : Past → List ℕ
taken [] = []
taken (what ∷ past) = taken past ++ option_to_list (taken_by what)

-- the requests that were ready, without the one that is taken
abbrev pub left_by : Option ℕ → List ℕ → List ℕ
left_by None numbers = numbers
left_by (Some number) numbers = without number numbers

module _ (setting : Setting) where
  -- the answer with which an entry completes a request, if the request has not completed before
  abbrev pub completed_by : ℕ → What → Past → Option Answer
  completed_by request (Accept number spec script) past = if number == request then at_once setting request spec else None
  completed_by request Cancel past = bare_if_accepted request Cancelled past
  completed_by request Destroy past = bare_if_accepted request Destruction past
  completed_by request (Take number) past = None
  completed_by request (Start number leg server link id mix moment) past = None
  completed_by request (Arrive server link bytes) past = search_answer setting request (Arrive server link bytes ∷ past)
  completed_by request (Expire number leg moment) past = search_answer setting request (Expire number leg moment ∷ past)
  completed_by request (Fault server link moment) past = search_answer setting request (Fault server link moment ∷ past)
  completed_by request (Servers list) past = None

  -- the answer of a request that has completed: that of the first entry that completes it
  abbrev pub fate : ℕ → Past → Option Answer
  fate request [] = None
  fate request (what ∷ past) = option_or (fate request past) (completed_by request what past)

  -- the request hasn't completed
  abbrev pub is_open : Past → ℕ → Bool
  is_open past request = is_none (fate request past)

  -- the requests that are accepted and haven't completed, in order
  abbrev pub pending : Past → List ℕ
  pending past = filter (is_open past) (requests past)

  -- the requests that an entry completes, in order
  abbrev pub completed_at : What → Past → List ℕ
  completed_at what past = filter (λ request. is_some (completed_by request what past)) (filter (is_open past) (requests (what ∷ past)))

  -- the requests that have completed, by the entry that completed them, then by number
  abbrev pub completions : Past → List ℕ
  completions [] = []
  completions (what ∷ past) = completions past ++ completed_at what past

  -- the ready requests, in the same order: what was ready and isn't taken, and what the entry completes
  abbrev pub ready : Past → List ℕ
  ready [] = []
  ready (what ∷ past) = left_by (taken_by what) (ready past) ++ completed_at what past

  -- the leg hasn't ended and isn't in flight
  abbrev pub is_idle : Past → Leg → Bool
  is_idle past leg = is_none (flight setting leg past) && is_none (leg_end setting leg past)

  -- the legs of the candidate at which a search stands
  abbrev pub legs_at : ℕ → Spec → Stand → List Leg
  legs_at request spec (asking c) = map (leg_of request) (legs_of spec c)
  legs_at request spec (over answer) = []

  -- the legs of a request's current candidate
  abbrev pub current_legs : Past → ℕ → List Leg
  current_legs past request = unwrap_or (option_map (λ spec. legs_at request spec (stand_of setting request spec past)) (spec_of request past)) []

  -- the waiting legs of a pending request: those of its current candidate that are idle
  abbrev pub waiting_of : Past → ℕ → List Leg
  waiting_of past request = filter (is_idle past) (current_legs past request)

  -- the legs that wait, by request, then by leg
  abbrev pub waiting : Past → List Leg
  waiting past = flat_map (waiting_of past) (pending past)
