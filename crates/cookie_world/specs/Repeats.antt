-- How many queries go out.
use Rattle.std.specs.Prelude.{ℕ, ◌+◌, List, [], ◌∷◌}
use Rattle.net_world.specs.declared.log.WorldCall.{WorldCall}
use Rattle.net_world.specs.declared.log.WorldCall.TheVariants.{Serve, Now, Word, Send, Connect, Write, Receive, Close, Wait}

-- a send counts
abbrev pub counts : WorldCall → ℕ
counts (Serve server address) = 0
counts (Now reading) = 0
counts (Word word) = 0
counts (Send server bytes answer) = 1
counts (Connect server link answer) = 0
counts (Write link bytes answer) = 0
counts (Receive got) = 0
counts (Close link) = 0
counts (Wait until answer) = 0

-- how many of these calls are sends
abbrev pub sends : List WorldCall → ℕ
sends [] = 0
sends (call ∷ calls) = counts call + sends calls
