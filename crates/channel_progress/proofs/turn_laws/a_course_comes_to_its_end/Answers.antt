use Rattle.channel_progress.proofs.StalledLemmas.{stalled_any, stalled_first, stalled_one}
use Rattle.channel_progress.proofs.turn_laws.a_course_comes_to_its_end.Goals as goal

pub returns-clause-any : goal.returns-clause-any
returns-clause-any c = stalled_any

pub returns-clause-accepted_first : goal.returns-clause-accepted_first
returns-clause-accepted_first c = stalled_first

pub returns-clause-one_request : goal.returns-clause-one_request
returns-clause-one_request c = stalled_one
