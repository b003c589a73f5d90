-- A count that is raised where a call fails is a cause.
use Rattle.std.proofs.Common.{◌≡◌, ℕ, ◌≤◌, Bool, true, false, IsTrue, sym, subst, arith}
use Rattle.std.proofs.lemmas.Grind.{common_steps}
use Rattle.net_world.specs.Cause.{Rose, raised}

-- it never falls
pub raised_later : (failed : Bool) (count : ℕ) → count ≤ raised failed count
raised_later false count = omega arith
raised_later true count = grind (arith, common_steps)

-- it rose
pub raised_rose : (count : ℕ) → Rose count (raised true count)
raised_rose count = λ fits. grind (arith, common_steps)

-- where the call failed, it rose
pub raised_where : (failed : Bool) (before now : ℕ) → now ≡ raised failed before → IsTrue failed → Rose before now
raised_where false before now is fails = absurd (cc)
raised_where true before now is fails = subst (Rose before) (sym is) (raised_rose before)

-- a count that rose in a part of a run, and never fell, rose in the run
pub rose_within : (start before after end : ℕ) → start ≤ before → before ≤ after → Rose before after → after ≤ end → Rose start end
rose_within start before after end begins later rose ends = λ fits. grind (arith, begins, later, rose, ends, fits)
