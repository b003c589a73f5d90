use Rattle.channel_progress.proofs.BesideLemmas.{stalled_at_end}
use Rattle.channel_progress.proofs.StalledLemmas.{beside_any, beside_many}
use Rattle.channel_progress.proofs.turn_laws.readings_cost_no_turn.Goals as goal

pub returns-clause-any : goal.returns-clause-any
returns-clause-any c = beside_any

pub returns-clause-each_request : goal.returns-clause-each_request
returns-clause-each_request c = beside_many

pub returns-clause-at_the_end : goal.returns-clause-at_the_end
returns-clause-at_the_end c setting seat slice turns asides journal log = stalled_at_end setting seat slice journal log turns asides
