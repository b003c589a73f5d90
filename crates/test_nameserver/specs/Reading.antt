-- Which file a run of the server's program reads. The most bytes are this project's profile.
use Rattle.std.specs.Prelude.{Err, List, Option, Result, [], option_map, ℕ, ◌++◌, ◌∷◌, ◌≡◌, ◌⊎◌}
use Rattle.net_world.specs.declared.answers.FileRead.{FileRead}
use Rattle.net_world.specs.declared.read_call.ReadCall.{ReadCall}
use Rattle.test_nameserver.specs.declared.ending.End.{End}
use Rattle.test_nameserver.specs.declared.ending.End.TheVariants.{NoMemory}
use Rattle.test_nameserver.specs.Statuses.{status_out_of_memory}

-- the most bytes of a zone's file
abbrev pub zone_most : ℕ
zone_most = 1048576

-- reads that are told go on with exactly one, of the file of this path
abbrev pub HasReadZone : List ℕ → Option (List ReadCall) → Option (List ReadCall) → Type 0
HasReadZone path old new = (read : FileRead) × (new ≡ option_map (λ calls. calls ++ record { path = path; most = zone_most; read = read } ∷ []) old)

-- a run with this exit status read the file of this path, once; or memory was wanting, the status is 5, and it read none
abbrev pub ReadsOnce : List ℕ → ℕ → Option (List ReadCall) → Option (List ReadCall) → Type 0
ReadsOnce path status old new = HasReadZone path old new ⊎ ((status ≡ status_out_of_memory) × (new ≡ old))

-- the same of the zone that came of it, or of how the run ends without one
abbrev pub ReadsZoneFile : {T : Type 0} → List ℕ → Result T End → Option (List ReadCall) → Option (List ReadCall) → Type 0
ReadsZoneFile path result old new = HasReadZone path old new ⊎ ((result ≡ Err NoMemory) × (new ≡ old))
