use Rattle.std.proofs.Common.{length}
use Rattle.journal_replay.proofs.keys.+have_keys.Given as goal

abbrev pub decreases-have_keys : goal.decreases-have_keys
decreases-have_keys l = length l.list.now
