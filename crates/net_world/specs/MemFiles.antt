-- Files in memory: what a read answers, and what it leaves.
use Rattle.std.specs.Prelude.{◌≡◌, ℕ, nat_lt, length, List, [], ◌∷◌, ◌++◌, map, Bool, true, if◌then◌else◌, Option, Some, None, String}
use Rattle.std.specs.Map.{lookup}
use Rattle.std.specs.Str.{bytes_eq}
use Rattle.std.specs.String.{string_bytes}
use Rattle.std.specs.declared.alloc.Global.{Global}
use Rattle.net_world.specs.declared.answers.FileRead.{FileRead}
use Rattle.net_world.specs.declared.answers.FileRead.TheVariants.{Content, Absent, Large, Failed as NotRead}
use Rattle.net_world.specs.declared.read_call.ReadCall.{ReadCall}
use Rattle.net_world.specs.Cause.{raised, fails_at}

-- where files in memory stand
pub record FilesState : Type 0 where
  -- each path with its file's bytes
  pub files : List (List ℕ × List ℕ)
  -- the number of the next call, which stays at the greatest number of 64 bits
  pub calls : ℕ
  -- the numbers of the calls that fail
  pub fails : List ℕ
  pub faults : ℕ
  -- the reads so far, with their answers
  pub reads : List ReadCall

-- each path of a map with its file's bytes
abbrev pub paths_of : List (String Global × List ℕ) → List (List ℕ × List ℕ)
paths_of entries = map (λ entry. (string_bytes entry.0, entry.1)) entries

-- the bytes of the file of this path, if there is one
abbrev pub file_of : List (List ℕ × List ℕ) → List ℕ → Option (List ℕ)
file_of files path = lookup (bytes_eq path) files

-- the next read fails
abbrev pub fails_now : FilesState → Bool
fails_now state = fails_at state.fails state.calls

-- what a read of at most so many bytes of this file answers
abbrev pub read_of : ℕ → Option (List ℕ) → FileRead
read_of most None = Absent
read_of most (Some bytes) = if nat_lt most (length bytes) then Large else Content bytes

-- the file of this path is read, or the call fails
pub record ReadsFile (path : List ℕ) (most : ℕ) (old new : FilesState) (read : FileRead) : Type 0 where
  pub answer : read ≡ (if fails_now old then NotRead else read_of most (file_of old.files path))
  pub state : new ≡ record old {
    calls = raised true old.calls;
    faults = raised (fails_now old) old.faults;
    reads = old.reads ++ record { path = path; most = most; read = read } ∷ [];
  }
