-- The texts of answers.
use Rattle.std.specs.Prelude.{List, [], flat_map, slice_get, unwrap_or, ℕ, ◌++◌, ◌-◌, ◌∷◌}
use Rattle.chan_types.specs.Statuses.{text_of as status_text}
use Rattle.chan_types.specs.declared.answer.Answer.{Answer}
use Rattle.net_addr.specs.Text.{text_of}
use Rattle.net_addr.specs.declared.addr.Addr.{Addr}

-- an address on a line
abbrev pub address_line : Addr → List ℕ
address_line address = text_of address ++ 10 ∷ []

-- an address behind a blank
abbrev pub spaced_address : Addr → List ℕ
spaced_address address = 32 ∷ text_of address

-- the host that the request with this number asked for, or a plus sign for what a callback asked
abbrev pub subject_of : List (List ℕ) → ℕ → List ℕ
subject_of hosts number = unwrap_or (slice_get hosts (number - 1)) (43 ∷ [])

-- an answer on a line: what was asked for, how it ended, and the addresses
abbrev pub line_of : List ℕ → Answer → List ℕ
line_of subject answer = subject ++ 32 ∷ status_text answer.status ++ flat_map spaced_address answer.addresses ++ 10 ∷ []

-- the same, where these hosts were asked for, in order
abbrev pub answer_line : List (List ℕ) → Answer → List ℕ
answer_line hosts answer = line_of (subject_of hosts answer.number) answer
