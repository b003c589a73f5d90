use Rattle.std.proofs.Common.{◌≡◌, []}
use Rattle.shared_channel_bench.proofs.alone.rounds.Given as goal

abbrev pub invariant-loop : goal.invariant-loop
invariant-loop l = l.hand.commands ≡ []
