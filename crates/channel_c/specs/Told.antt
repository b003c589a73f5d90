-- What an answer tells that is a yes or a no.
use Rattle.std.specs.Prelude.{Bool, None, Option, Some, false, if◌then◌else◌, true, ℕ, ◌==◌}

-- whether an attempt is in flight
abbrev pub busy_told : ℕ → Option Bool
busy_told answer = if answer == 0 then Some true else if answer == 3 then Some false else None

-- whether this call was the first that destroyed the channel
abbrev pub first_told : ℕ → Option Bool
first_told answer = if answer == 0 then Some true else if answer == 1 then Some false else None
