use Rattle.std.proofs.Common.{◌≡◌, ◌≤◌, length}
use Rattle.channel_fleet.proofs.settling.catch_up.Given as goal

-- so far the reader was left, or has seen no less
abbrev pub invariant-loop : goal.invariant-loop
invariant-loop g l = (l.board ≡ l.fn.board) × (length l.fn.watcher ≤ length l.watcher)
