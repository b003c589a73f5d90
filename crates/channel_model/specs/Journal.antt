-- The journal of a channel, and the past of a position.
-- A position's past is what happened before it, the newest first: what is said of a position speaks of its past alone.
use Rattle.std.specs.List.{list_any}
use Rattle.std.specs.Prelude.{List, [], ◌∷◌, ℕ, filter, ◌==◌, Option, Some, None, ◌++◌, option_to_list, find, option_map, Bool, false, true}
use Rattle.chan_types.specs.declared.journal.Entry.{Entry}
use Rattle.chan_types.specs.declared.journal.What.{What}
use Rattle.chan_types.specs.declared.journal.What.TheVariants.{Accept, Cancel, Destroy, Take, Start, Arrive, Expire, Fault, Servers}
use Rattle.chan_types.specs.declared.script.Script.{Script}
use Rattle.chan_types.specs.declared.spec.Spec.{Spec}

abbrev pub Past : Type 0
Past = List What

-- what happened, where these entries stand behind a past
abbrev pub followed_by : Past → List Entry → Past
followed_by past [] = past
followed_by past (entry ∷ entries) = followed_by (entry.what ∷ past) entries

-- what happened in a journal, the newest first
abbrev pub past_of : List Entry → Past
past_of journal = followed_by [] journal

-- the entries that a seat made, in order
abbrev pub own_entries : ℕ → List Entry → List Entry
own_entries seat journal = filter (λ entry. entry.seat == seat) journal

-- a request as it was accepted: its number, what it asks, and the script of its callback
pub record Accepted : Type 0 where
  pub number : ℕ
  pub spec : Spec
  pub script : Script

-- the request that an entry accepts
abbrev pub accepted_by : What → Option Accepted
accepted_by (Accept number spec script) = Some (record { number = number; spec = spec; script = script })
accepted_by Cancel = None
accepted_by Destroy = None
accepted_by (Take number) = None
accepted_by (Start number leg server link id mix moment) = None
accepted_by (Arrive server link bytes) = None
accepted_by (Expire number leg moment) = None
accepted_by (Fault server link moment) = None
accepted_by (Servers list) = None

-- the accepted requests, in the order of their entries
abbrev pub accepted : Past → List Accepted
accepted [] = []
accepted (what ∷ past) = accepted past ++ option_to_list (accepted_by what)

-- the accepted request with this number
abbrev pub request_of : ℕ → Past → Option Accepted
request_of number past = find (λ request. request.number == number) (accepted past)

-- what a request asks
abbrev pub spec_of : ℕ → Past → Option Spec
spec_of number past = option_map (λ request. request.spec) (request_of number past)

-- the script of a request's callback
abbrev pub script_of : ℕ → Past → Option Script
script_of number past = option_map (λ request. request.script) (request_of number past)

-- the entry is a Destroy
abbrev pub is_destroy : What → Bool
is_destroy (Accept number spec script) = false
is_destroy Cancel = false
is_destroy Destroy = true
is_destroy (Take number) = false
is_destroy (Start number leg server link id mix moment) = false
is_destroy (Arrive server link bytes) = false
is_destroy (Expire number leg moment) = false
is_destroy (Fault server link moment) = false
is_destroy (Servers list) = false

-- a Destroy stands in the past
abbrev pub is_destroyed : Past → Bool
is_destroyed past = list_any is_destroy past
