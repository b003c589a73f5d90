use Rattle.channel_table.proofs.Base.{◌≤◌, ◌*◌, length, Keeps}
use Rattle.channel_table.proofs.MarkLemmas.{MarkedUpTo}
use Rattle.channel_table.proofs.table.marking.marks_at.Given as goal

-- the rows before this index are marked that were told
abbrev pub invariant-loop-place : goal.invariant-loop-place
invariant-loop-place g l = record {
  inside : l.from ≤ length l.rows.items;
  few : l.count ≤ 2 * l.from;
  upto : MarkedUpTo l.options l.server l.link l.most l.marks.items l.waiting l.count l.from l.rows.items;
  kept : Keeps l.initial.waiting l.waiting;
}
