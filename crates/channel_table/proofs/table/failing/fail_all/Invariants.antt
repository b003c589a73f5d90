use Rattle.channel_table.proofs.Base.{◌≡◌, ◌≤◌, ◌+◌, ◌++◌, map, deque_len, deque_capacity, length, filter_map, into_iter_items, into_iter_len, answer_over, fails_at, kept_of, ticket_made}
use Rattle.channel_table.proofs.table.failing.fail_all.Given as goal

abbrev pub invariant-loop-row : goal.invariant-loop-row
invariant-loop-row g l =
    (goal.iterator-loop-row g).can_next l.row-iterator
    × (goal.iterator-loop-row g).is_finite l.row-iterator
    × (l.yielded ++ into_iter_items l.row-iterator ≡ into_iter_items l.initial.row-iterator)
    × (l.kept.items ≡ filter_map kept_of (map (fails_at l.options l.server l.link l.most) l.yielded))
    × (l.ready.items ≡ l.initial.ready.items ++ filter_map ticket_made (map (fails_at l.options l.server l.link l.most) l.yielded))
    × (into_iter_len l.row-iterator ≡ length (into_iter_items l.row-iterator))
    × (deque_len l.kept + deque_len l.ready + into_iter_len l.row-iterator ≡ deque_len l.initial.ready + into_iter_len l.initial.row-iterator)
    × (deque_len l.initial.ready ≤ deque_len l.ready)
    × (deque_capacity l.ready ≡ deque_capacity l.initial.ready)
    × (deque_capacity l.kept ≡ deque_capacity l.initial.kept)
    × (l.answers.items ≡ map (answer_over l.options l.server l.link l.most) (into_iter_items l.row-iterator))
