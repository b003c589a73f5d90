-- What a run of the server's program puts.
use Rattle.std.specs.Prelude.{◌≡◌, ◌≢◌, ◌⊎◌, ℕ, ◌==◌, if◌then◌else◌, List, [], ◌∷◌, ◌++◌, codes, Option, option_map}
use mathlib.Core.List.{IsPrefix}
use Rattle.net_world.specs.declared.answers.PutEnd.{PutEnd}
use Rattle.net_world.specs.declared.answers.PutEnd.TheVariants.{Done, Failed as NotPut}
use Rattle.net_world.specs.declared.put_call.PutCall.{PutCall}
use Rattle.test_nameserver.specs.Statuses.{status_usage, status_file_fault, status_sink_fault, status_out_of_memory, status_socket_fault, status_bad_zone}

-- a line of the program's own
abbrev pub line : List ℕ → List ℕ
line text = codes "tns: " ++ text ++ 10 ∷ []

-- the text of an exit status, or none
abbrev pub text_for : ℕ → List ℕ
text_for status =
    if status == status_usage then line (codes "usage")
    else (if status == status_file_fault then line (codes "file fault")
    else (if status == status_socket_fault then line (codes "socket fault")
    else (if status == status_bad_zone then line (codes "bad zone")
    else [])))

-- bytes that are told go on with this text
abbrev pub GrowsBy : Option (List ℕ) → Option (List ℕ) → List ℕ → Type 0
GrowsBy old new text = new ≡ option_map (λ bytes. bytes ++ text) old

-- bytes that are told go on with a part of this text from its beginning, or with nothing
abbrev pub GrowsByPart : Option (List ℕ) → Option (List ℕ) → List ℕ → Type 0
GrowsByPart old new text = (part : List ℕ) × IsPrefix part text × GrowsBy old new part

-- what a run put: the text of its exit status; where the output failed, a part of the text of one that the run had a cause for; where memory was wanting, nothing
pub record IsOutputOf (HasCause : ℕ → Type 0) (status : ℕ) (old new : Option (List ℕ)) : Type 0 where
  pub whole : status ≢ status_sink_fault → status ≢ status_out_of_memory → GrowsBy old new (text_for status)
  pub part : (told : ℕ) × HasCause told × GrowsByPart old new (text_for told)
  pub memory : status ≡ status_out_of_memory → new ≡ old

-- puts that are told go on with exactly one: of this text, which came to this end
abbrev pub PutsOnce : List ℕ → PutEnd → Option (List PutCall) → Option (List PutCall) → Type 0
PutsOnce text end old new = new ≡ option_map (λ calls. calls ++ record { text = text; end = end } ∷ []) old

-- this text was put, in one put, and the exit status is this; or that one put failed, and it is 4; or memory was wanting, nothing was put, and it is 5
abbrev pub PutsText : List ℕ → ℕ → ℕ → Option (List PutCall) → Option (List PutCall) → Type 0
PutsText text wanted status old new =
    ((status ≡ wanted) × PutsOnce text Done old new)
    ⊎ ((status ≡ status_sink_fault) × PutsOnce text NotPut old new)
    ⊎ ((status ≡ status_out_of_memory) × (new ≡ old))

-- a run that came to this status put its text so; where it has none it put nothing, not even an empty text, and the exit status is that one
abbrev pub PutsTextOf : ℕ → ℕ → Option (List PutCall) → Option (List PutCall) → Type 0
PutsTextOf told status old new =
    ((text_for told ≡ []) × (status ≡ told) × (new ≡ old))
    ⊎ ((text_for told ≢ []) × PutsText (text_for told) told status old new)
