use Rattle.std.proofs.Common.{◌≡◌, []}
use Rattle.callback_runs.proofs.tests.told_by.Given as goal

-- between two moves the hand is empty
abbrev pub invariant-loop-to_make : goal.invariant-loop-to_make
invariant-loop-to_make l = l.hand.commands ≡ []
