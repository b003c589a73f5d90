use Rattle.std.proofs.Common.{◌≡◌, map, take, vec_capacity}
use Rattle.fleet_session.proofs.serving.note_ends.Given as goal

-- so far the ends of the first stands
abbrev pub invariant-loop-stand : goal.invariant-loop-stand
invariant-loop-stand g l = (l.ends.items ≡ map (λ stand. stand.end) (take l.stand-index l.stands)) × (vec_capacity l.ends ≡ vec_capacity l.fn.ends)
