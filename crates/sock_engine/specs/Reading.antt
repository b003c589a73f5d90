-- What a read of a file that tells its bytes answers.
use Rattle.std.specs.Prelude.{◌≡◌, ℕ, ◌<◌, ◌≤◌, List, length, ⊤}
use Rattle.net_world.specs.declared.answers.FileRead.{FileRead}
use Rattle.net_world.specs.declared.answers.FileRead.TheVariants.{Content, Absent, Large, Failed as NotRead}

-- a content has at most so many bytes
abbrev pub IsBounded : ℕ → FileRead → Type 0
IsBounded most (Content bytes) = length bytes ≤ most
IsBounded most Absent = ⊤
IsBounded most Large = ⊤
IsBounded most NotRead = ⊤

-- the answer is the whole content, where the file has at most so many bytes, and else that it is too large
abbrev pub IsAllOf : List ℕ → ℕ → FileRead → Type 0
IsAllOf bytes most (Content content) = (length bytes ≤ most) × (content ≡ bytes)
IsAllOf bytes most Absent = ⊥
IsAllOf bytes most Large = most < length bytes
IsAllOf bytes most NotRead = ⊤
