-- Which numbers the keys of a queue have.
use Rattle.std.specs.Prelude.{◌≡◌, ℕ, ◌<◌, true}
use Rattle.std.specs.FinMap.{contains_key}
use Rattle.timeout_queue.specs.declared.key.Key.{Key}
use Rattle.timeout_queue.specs.Queue.{Deadlines}

-- each key of the queue has a number below n
abbrev pub AreBelow : ℕ → Deadlines → Type 0
AreBelow n deadlines = (key : Key) → contains_key deadlines key ≡ true → key.number < n
