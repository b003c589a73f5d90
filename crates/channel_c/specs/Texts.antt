-- What the answer to the making of a channel says of its two texts.
use Rattle.std.specs.Prelude.{List, MatchBool, length, ℕ, ◌<◌, ◌==◌, ◌≡◌, ◌≤◌}
use Rattle.c_types.specs.Faults.{AreReadable}

-- it is 0, or 2 for want of memory, where neither text is above its limit; or 7, where that of resolv.conf is; or 8, where only that of the hosts file is
abbrev pub AnswersTexts : List ℕ → List ℕ → ℕ → Type 0
AnswersTexts resolv hosts answer =
    MatchBool (answer == 0) (AreReadable resolv hosts)
    (MatchBool (answer == 2) (AreReadable resolv hosts)
    (MatchBool (answer == 7) (65536 < length resolv)
    ((answer ≡ 8) × (length resolv ≤ 65536) × (4194304 < length hosts))))
