use Rattle.std.proofs.Common.{deque_len}
use Rattle.timeout_queue.specs.Rows.{is_live, KeepsLive}
use Rattle.timeout_queue.proofs.rows.drop_stale.Given as goal

abbrev pub invariant-loop-first : goal.invariant-loop-first
invariant-loop-first l = KeepsLive (is_live l.moments) l.fn.row.items l.row.items

abbrev pub decreases-loop-first : goal.decreases-loop-first
decreases-loop-first l = deque_len l.row
