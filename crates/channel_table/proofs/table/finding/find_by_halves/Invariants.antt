use Rattle.channel_table.proofs.Base.{◌-◌, ◌<◌, ◌≤◌, get_or, length, ℕ, Row}
use Rattle.channel_table.proofs.table.finding.find_by_halves.Given as goal

-- the rows below this range have lesser numbers, and those above it greater ones
abbrev pub invariant-loop-low : goal.invariant-loop-low
invariant-loop-low g l = record {
  order : l.low ≤ l.high;
  inside : l.high ≤ length l.rows.items;
  below : (i : ℕ) (d : Row g.row.T.Denot) → i < l.low → (get_or l.rows.items i d).number < l.number;
  above : (i : ℕ) (d : Row g.row.T.Denot) → l.high ≤ i → i < length l.rows.items → l.number < (get_or l.rows.items i d).number;
}

abbrev pub decreases-loop-low : goal.decreases-loop-low
decreases-loop-low g l = l.high - l.low
