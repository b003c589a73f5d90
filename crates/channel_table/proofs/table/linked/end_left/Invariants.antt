use Rattle.channel_table.proofs.Base.{drop, map, take, ◌++◌, AreLinked, row_set}
use Rattle.channel_table.proofs.table.linked.end_left.Given as goal

abbrev pub invariant-loop-index : goal.invariant-loop-index
invariant-loop-index g l = AreLinked l.initial.links l.rows.items → AreLinked l.links (map (row_set l.list) (take l.index l.rows.items) ++ drop l.index l.rows.items)
