use Rattle.channel_table.proofs.Base.{drop, map, take, ◌++◌, AreFlown, row_set, all_lookups}
use Rattle.channel_table.proofs.table.flown.forget_left.Given as goal

abbrev pub invariant-loop-index : goal.invariant-loop-index
invariant-loop-index g l = AreFlown l.initial.flown (all_lookups l.rows.items) → AreFlown l.flown (all_lookups (map (row_set l.list) (take l.index l.rows.items)) ++ all_lookups (drop l.index l.rows.items))
