-- How the attempts left change from one past of a journal to a later one.
use Rattle.std.proofs.Common.{◌+◌, ◌≤◌, arith}
use Rattle.channel_model.specs.Journal.{Past}
use Rattle.channel_model.specs.Setting.{Setting}
use Rattle.channel_progress.proofs.LeftLemmas.{attempts_so_far, left_in}

module _ (setting : Setting) (end : Past) where
  -- between two pasts the attempts left grew by no more than those of the requests accepted
  pub record Keeps (old new : Past) : Type 0 where
    pub less : left_in setting end new + attempts_so_far setting end old ≤ left_in setting end old + attempts_so_far setting end new

  -- and by at least one less
  pub record Falls (old new : Past) : Type 0 where
    pub less : left_in setting end new + 1 + attempts_so_far setting end old ≤ left_in setting end old + attempts_so_far setting end new

  -- nothing happened
  pub keeps_refl : (past : Past) → Keeps past past
  keeps_refl past = record { less = omega arith }

  -- one stretch behind another
  pub keeps_trans : (old middle new : Past) → Keeps old middle → Keeps middle new → Keeps old new
  keeps_trans old middle new a b = record { less = omega (arith, a.less, b.less) }

  -- where they fall first, they fall
  pub falls_then : (old middle new : Past) → Falls old middle → Keeps middle new → Falls old new
  falls_then old middle new a b = record { less = omega (arith, a.less, b.less) }

  -- and where they fall then
  pub then_falls : (old middle new : Past) → Keeps old middle → Falls middle new → Falls old new
  then_falls old middle new a b = record { less = omega (arith, a.less, b.less) }

  -- where they fall, they grew by no more
  pub falls_keeps : (old new : Past) → Falls old new → Keeps old new
  falls_keeps old new a = record { less = omega (arith, a.less) }
