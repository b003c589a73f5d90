-- Bytes that are laid over a buffer.
use Rattle.std.specs.Prelude.{List, drop, length, min, take, ℕ, ◌++◌}

-- the buffer with as many of the bytes at its front as there is room for; what stands behind them stays
abbrev pub laid_over : List ℕ → List ℕ → List ℕ
laid_over bytes buffer = let count = min (length bytes) (length buffer) in take count bytes ++ drop count buffer
