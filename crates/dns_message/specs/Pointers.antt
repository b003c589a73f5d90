-- Where a name stands, and what points to it (RFC 1035, section 4.1.4).
use Rattle.std.specs.Prelude.{◌≡◌, ℕ, ◌+◌, ◌-◌, ◌*◌, ◌<◌, ◌≤◌, List, length, Ok}
use Rattle.dns_message.specs.Reading.{byte_at, name_of}

-- the name that is read at a place is this one
abbrev pub StandsAt : List ℕ → ℕ → List (List ℕ) → Type 0
StandsAt bytes place name = (next : ℕ) × (name_of bytes place ≡ Ok (name, next))

-- the two bytes at an offset are a pointer to a place before it
pub record PointsTo (bytes : List ℕ) (at place : ℕ) : Type 0 where
  pub whole : at + 2 ≤ length bytes
  pub pointer : 192 ≤ byte_at bytes at
  pub target : place ≡ (byte_at bytes at - 192) * 256 + byte_at bytes (at + 1)
  pub before : place < at
