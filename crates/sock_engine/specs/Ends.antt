-- What the answers of the system's calls mean.
use Rattle.std.specs.Prelude.{ℕ, min, if◌then◌else◌, Bool}
use Rattle.net_world.specs.declared.answers.Wrote.{Wrote}
use Rattle.net_world.specs.declared.answers.Wrote.TheVariants.{Count, Failed as NotWritten}
use Rattle.sock_engine.specs.declared.ends.Moved.{Moved}
use Rattle.sock_engine.specs.declared.ends.Moved.TheVariants.{Done, Blocked, Again, Failed}

-- what a write to a link answers: one that would have to wait has taken no byte
abbrev pub write_end : Moved → Wrote
write_end (Done count) = Count count
write_end Blocked = Count 0
write_end Again = Count 0
write_end (Failed failure) = NotWritten

-- how long a wait may last, of the milliseconds that are left: not at all where something may be there already, a short while
-- where a socket rests
abbrev pub patience : Bool → Bool → ℕ → ℕ
patience is_pending is_resting left = if is_pending then 0 else if is_resting then min left 10 else left
