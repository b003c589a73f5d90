use Rattle.std.proofs.Common.{◌≡◌, ◌+◌, ◌-◌, vec_len, vec_capacity}
use Rattle.seat_lock.specs.declared.view.Phase.TheVariants.{Makes}
use Rattle.seat_lock.specs.Steps.{in_phase}
use Rattle.seat_lock.specs.Making.{others}
use Rattle.seat_lock.proofs.making.add_others.Given as goal

abbrev pub invariant-loop-number : goal.invariant-loop-number
invariant-loop-number g l =
    (l.token.table_id ≡ l.fn.token.table_id) × (l.token.id ≡ l.fn.token.id)
    × (l.token.me ≡ (in_phase l.fn.token.me.0 (Makes l.number), l.fn.token.me.1))
    × (l.all.items ≡ others l.fn.token.table_id l.fn.token.me.0 (l.number - 1))
    × (vec_len l.all + 1 ≡ l.number) × (vec_capacity l.all ≡ vec_capacity l.fn.all)
