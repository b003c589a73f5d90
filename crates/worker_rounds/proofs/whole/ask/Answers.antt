use Rattle.worker_rounds.proofs.whole.ask.Goals as goal

pub returns-in-Err : goal.returns-in-Err
returns-in-Err g c = (c.accept.result, c.accept.ensures.done)

pub returns-in_default : goal.returns-in_default
returns-in_default g c = (c.accept.result, c.accept.ensures.done)
