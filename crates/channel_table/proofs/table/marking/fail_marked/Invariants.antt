use Rattle.channel_table.proofs.Base.{◌≡◌, ◌≤◌, ◌+◌, deque_capacity, deque_len, AreFlown, AreLinked, all_lookups, IsTally}
use Rattle.channel_table.proofs.MarkSteps.{HaveFailed}
use Rattle.channel_table.proofs.table.marking.fail_marked.Given as goal

-- some of the rows have failed, and the others are marked
abbrev pub invariant-loop-alloc : goal.invariant-loop-alloc
invariant-loop-alloc g l = record {
  failed : HaveFailed l.options l.server l.link l.most l.marks.items l.initial.rows.items l.rows.items l.initial.ready.items l.ready.items l.from;
  flown : AreFlown l.initial.flown (all_lookups l.initial.rows.items) → AreFlown l.flown (all_lookups l.rows.items);
  linked : AreLinked l.initial.links l.initial.rows.items → AreLinked l.links l.rows.items;
  tally : IsTally l.initial.rows.items l.initial.tally → IsTally l.rows.items l.tally;
  fewer : deque_len l.rows ≤ deque_len l.initial.rows;
  len : deque_len l.rows + deque_len l.ready ≡ deque_len l.initial.rows + deque_len l.initial.ready;
  capacity : deque_capacity l.ready ≡ deque_capacity l.initial.ready;
}

abbrev pub decreases-loop-alloc : goal.decreases-loop-alloc
decreases-loop-alloc g l = deque_len l.marks
