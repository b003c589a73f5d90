-- The last of some items, for what a later line or word sets anew.
use Rattle.std.specs.Prelude.{List, [], ◌∷◌}

-- the last of the items, or this one where there is none
abbrev pub last_or : {A : Type 0} → A → List A → A
last_or item [] = item
last_or item (next ∷ items) = last_or next items
