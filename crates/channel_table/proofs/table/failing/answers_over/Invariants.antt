use Rattle.channel_table.proofs.Base.{◌≡◌, map, take, answer_over}
use Rattle.channel_table.proofs.table.failing.answers_over.Given as goal

-- the answers of the rows before this index
abbrev pub invariant-loop-index : goal.invariant-loop-index
invariant-loop-index g l = l.answers.items ≡ map (answer_over l.options l.server l.link l.most) (take l.index l.rows.items)
