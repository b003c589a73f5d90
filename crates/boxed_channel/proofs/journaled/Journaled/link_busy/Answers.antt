use Rattle.boxed_channel.proofs.JournaledLemmas.{kept_does, untold_does}
use Rattle.boxed_channel.proofs.journaled.Journaled.link_busy.Goals as goal

pub returns-in-Untold-clause-done : goal.returns-in-Untold-clause-done
returns-in-Untold-clause-done c = untold_does c.in-Untold.is c.link_busy.ensures.done

pub returns-in-Kept-clause-done : goal.returns-in-Kept-clause-done
returns-in-Kept-clause-done c = kept_does c.in-Kept.is c.link_busy-in-Kept.ensures.done
