-- What a read of a file answers.
use Rattle.std.specs.Prelude.{◌≡◌, ℕ, ◌<◌, ◌≤◌, List, length, Option, Some, None, IsSomeAnd, MatchOption, ⊤}
use Rattle.net_world.specs.declared.answers.FileRead.{FileRead}
use Rattle.net_world.specs.declared.answers.FileRead.TheVariants.{Content, Absent, Large, Failed as NotRead}

-- where files are told, this is so of the file of this path
abbrev pub WhereTold : Option (List ℕ → Option (List ℕ)) → List ℕ → (Option (List ℕ) → Type 0) → Type 0
WhereTold files path P = MatchOption files ⊤ (λ file. P (file path))

-- the answer fits the file of this path, where told: its whole content of at most so many bytes, that there is none, or that it has more
abbrev pub IsReadOf : Option (List ℕ → Option (List ℕ)) → List ℕ → ℕ → FileRead → Type 0
IsReadOf files path most (Content bytes) = (length bytes ≤ most) × WhereTold files path (λ file. file ≡ Some bytes)
IsReadOf files path most Absent = WhereTold files path (λ file. file ≡ None)
IsReadOf files path most Large = WhereTold files path (λ file. IsSomeAnd file (λ bytes. most < length bytes))
IsReadOf files path most NotRead = ⊤
