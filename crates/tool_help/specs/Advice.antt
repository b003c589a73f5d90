-- What to do about an exit status: where a tool puts a line in place of a page, or nothing, a sentence stands on standard error.
use Rattle.std.specs.Prelude.{Bool, ◌==◌, ◌||◌, ℕ}

-- a file can't be read, memory was wanting, a wait failed, or a request was still pending behind all turns
abbrev pub has_advice : ℕ → Bool
has_advice status = (status == 3) || (status == 5) || (status == 6) || (status == 7)
