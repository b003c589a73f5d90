use Rattle.channel_table.proofs.Base.{drop, map, take, ℕ, ◌++◌, ◌≡◌, filter_map, Options, answer_over, fails_at, kept_of, AreLinked}
use Rattle.channel_table.proofs.table.linked.end_over.Given as goal

abbrev pub invariant-loop-index : goal.invariant-loop-index
invariant-loop-index g l =
    (options : Options) (most : ℕ) → l.answers ≡ map (answer_over options l.server l.link most) l.rows.items → AreLinked l.initial.links l.rows.items
    → AreLinked l.links (filter_map kept_of (map (fails_at options l.server l.link most) (take l.index l.rows.items)) ++ drop l.index l.rows.items)
