use Rattle.channel_table.proofs.Base.{drop, map, take, ℕ, ◌++◌, ◌≡◌, filter_map, Options, answer_over, fails_at, kept_of, AreFlown, all_lookups}
use Rattle.channel_table.proofs.table.flown.forget_over.Given as goal

abbrev pub invariant-loop-index : goal.invariant-loop-index
invariant-loop-index g l =
    (options : Options) (most : ℕ) → l.answers ≡ map (answer_over options l.server l.link most) l.rows.items → AreFlown l.initial.flown (all_lookups l.rows.items)
    → AreFlown l.flown (all_lookups (filter_map kept_of (map (fails_at options l.server l.link most) (take l.index l.rows.items))) ++ all_lookups (drop l.index l.rows.items))
