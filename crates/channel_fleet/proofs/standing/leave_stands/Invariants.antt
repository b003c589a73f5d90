use Rattle.std.proofs.Common.{◌≡◌, ◌≤◌, ◌+◌, ◌++◌, map, vec_capacity, vec_len}
use Rattle.channel_fleet.proofs.standing.leave_stands.Given as goal

-- the helms of the first stands are back, and there is room for those of the others
abbrev pub invariant-loop-stands : goal.invariant-loop-stands
invariant-loop-stands g l = (l.helms.items ++ map (λ stand. stand.helm) l.stands.items ≡ map (λ stand. stand.helm) l.fn.stands.items) × (vec_len l.helms + vec_len l.stands ≤ vec_capacity l.helms)

abbrev pub decreases-loop-stands : goal.decreases-loop-stands
decreases-loop-stands g l = vec_len l.stands
