-- What an error of the system tells of this machine, by its number on Linux.
use Rattle.std.specs.Prelude.{ℕ, ℤ, List, [], ◌∷◌, ◌==◌, if◌then◌else◌, Bool, Option, None, Some, unsigned_abs, codes}
use Rattle.std.specs.List.{list_any}
use Rattle.sock_engine.specs.declared.local_failure.LocalFailure.{LocalFailure}
use Rattle.sock_engine.specs.declared.local_failure.LocalFailure.TheVariants.{OpenFiles, NoRoute, NoMemory, Other}

-- the numbers of errors that the other side brings about: EPIPE, ECONNABORTED, ECONNRESET, ENOTCONN, ETIMEDOUT, ECONNREFUSED
abbrev pub refusals : List ℕ
refusals = 32 ∷ 103 ∷ 104 ∷ 107 ∷ 110 ∷ 111 ∷ []

-- those of too many open files: ENFILE, EMFILE
abbrev pub file_limits : List ℕ
file_limits = 23 ∷ 24 ∷ []

-- those of no way to the server: EADDRNOTAVAIL, ENETDOWN, ENETUNREACH, EHOSTUNREACH
abbrev pub lost_ways : List ℕ
lost_ways = 99 ∷ 100 ∷ 101 ∷ 113 ∷ []

-- those of no memory: ENOMEM, ENOBUFS
abbrev pub wants : List ℕ
wants = 12 ∷ 105 ∷ []

-- the number is one of these
abbrev pub is_among : ℕ → List ℕ → Bool
is_among number numbers = list_any (λ other. other == number) numbers

-- this machine's failure, if the error with this number is one
abbrev pub failure_of : ℕ → Option LocalFailure
failure_of number =
    if is_among number refusals then None else
    if is_among number file_limits then Some OpenFiles else
    if is_among number lost_ways then Some NoRoute else
    if is_among number wants then Some NoMemory else Some (Other number)

-- the same by the code that an error tells, if it tells one
abbrev pub failure_by_code : Option ℤ → Option LocalFailure
failure_by_code None = Some (Other 0)
failure_by_code (Some code) = failure_of (unsigned_abs code)

-- a failure in words
abbrev pub text_of : LocalFailure → List ℕ
text_of OpenFiles = codes "too many open files"
text_of NoRoute = codes "no route to a server"
text_of NoMemory = codes "no memory for a socket"
text_of (Other number) = codes "a failure of the system"
