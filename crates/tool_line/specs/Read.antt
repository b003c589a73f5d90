-- Which files a run reads, with what was answered.
use Rattle.std.specs.Prelude.{List, Option, option_map, ℕ, ◌++◌, ◌≡◌, ◌⊎◌}
use mathlib.Core.List.{IsPrefix}
use Rattle.net_world.specs.declared.answers.FileRead.{FileRead}
use Rattle.net_world.specs.declared.read_call.ReadCall.{ReadCall}
use Rattle.tool_line.specs.Words.{Text}

-- the read of the file of this path, of so many bytes at most, with this answer
abbrev pub read_call : Text → ℕ → FileRead → ReadCall
read_call path most read = record { path = path; most = most; read = read }

-- reads that are told go on with these, in this order, and with no other
abbrev pub HasRead : List ReadCall → Option (List ReadCall) → Option (List ReadCall) → Type 0
HasRead calls before after = after ≡ option_map (λ earlier. earlier ++ calls) before

-- a run with this exit status has read this; or memory was wanting, the status is 5, and it has read the first of it, or nothing
abbrev pub HasReadAt : ℕ → List ReadCall → Option (List ReadCall) → Option (List ReadCall) → Type 0
HasReadAt status calls before after =
    HasRead calls before after ⊎ ((status ≡ 5) × ((first : List ReadCall) × IsPrefix first calls × HasRead first before after))
