-- Messages as they are borrowed from what a link carries.
use Rattle.std.specs.Prelude.{ℕ, List, map}
use Rattle.std.specs.Global.{Vec}
use Rattle.std.specs.Borrow.{Bor}

-- a message and what stands behind it
abbrev pub seen : Bor (List ℕ) × Bor (List ℕ) → List ℕ × List ℕ
seen x = (x.0.now, x.1.now)

-- messages and what stands behind them
abbrev pub messages_seen : Vec (Bor (List ℕ)) × Bor (List ℕ) → List (List ℕ) × List ℕ
messages_seen x = (map (λ message. message.now) x.0.items, x.1.now)
