use Rattle.boxed_channel.proofs.JournaledLemmas.{kept_voiced, untold_voiced}
use Rattle.boxed_channel.proofs.journaled.Journaled.accept.Goals as goal

pub returns-in-Untold-clause-done : goal.returns-in-Untold-clause-done
returns-in-Untold-clause-done c = untold_voiced c.in-Untold.is c.accept.ensures.done

pub returns-in-Kept-clause-done : goal.returns-in-Kept-clause-done
returns-in-Kept-clause-done c = kept_voiced c.in-Kept.is c.accept-in-Kept.ensures.done
