-- What a copying call does.
use Rattle.std.specs.Prelude.{List, length, min, ℕ, ◌≡◌}
use Rattle.c_types.specs.Laid.{laid_over}

-- the answer is 0, and as many of the bytes are laid over the buffer as there is room for, and are counted
abbrev pub Copies : List ℕ → ℕ → ℕ → List ℕ → List ℕ → Type 0
Copies bytes answer copied before after = (answer ≡ 0) × (copied ≡ min (length bytes) (length before)) × (after ≡ laid_over bytes before)
