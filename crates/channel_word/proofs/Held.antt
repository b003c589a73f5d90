-- What is there, where something is.
use Rattle.std.specs.Prelude.{IsSomeAnd, None, Option, Some, ◌≡◌, ⊤}
use mathlib.Core.Path.{refl}

-- an option in which there is something is that of it
pub held : {T : Type 0} (o : Option T) → IsSomeAnd o (λ _. ⊤) → (x : T) × (o ≡ Some x)
held None there = absurd there
held (Some x) there = (x, refl)
