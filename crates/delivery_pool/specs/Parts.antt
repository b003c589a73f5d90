-- Parts that ran beside each other.
use Rattle.std.specs.Prelude.{List, length, slice_index_or, ℕ, ◌<◌, ◌≡◌}

-- each of these did its own, from what it was to what it is
abbrev pub EachDoes : {W : Type 0} → (W → W → Type 0) → List W → List W → Type 0
EachDoes {W} does old new = (length new ≡ length old) × ((k : ℕ) (d : W) → k < length old → does (slice_index_or old k d) (slice_index_or new k d))
