-- What the number of a word tells.
use Rattle.std.specs.Prelude.{Option, is_some, ℕ, ◌==◌, ◌≡◌}

-- it is 1 exactly where there is something
abbrev pub IsTold : {T : Type 0} → ℕ → Option T → Type 0
IsTold made state = (made == 1) ≡ is_some state
