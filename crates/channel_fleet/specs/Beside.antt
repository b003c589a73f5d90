-- Shares of a work that threads do beside each other.
use Rattle.std.specs.Prelude.{List, length, slice_index_or, ℕ, ◌<◌, ◌≡◌}

module _ {T : Type 0} where
  -- each of these shares may be done, by its index
  abbrev pub MayEach : (ℕ → T → Type 0) → List T → Type 0
  MayEach may shares = (index : ℕ) (d : T) → index < length shares → may index (slice_index_or shares index d)

  -- each of these did its own, from what it was to what it is
  abbrev pub DoEach : (T → T → Type 0) → List T → List T → Type 0
  DoEach does old new = (length new ≡ length old) × ((index : ℕ) (d : T) → index < length old → does (slice_index_or old index d) (slice_index_or new index d))
