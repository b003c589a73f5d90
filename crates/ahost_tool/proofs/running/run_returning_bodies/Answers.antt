use Rattle.std.proofs.Common.{Err, None, ◌∙◌, ap, refl}
use Rattle.ahost_tool.proofs.LaterLemmas.{asked_few}
use Rattle.ahost_tool.proofs.LoadingLemmas.{asked_within, early_load, of_each}
use Rattle.owner_session.proofs.Theorems.{none_back}
use Rattle.ahost_tool.proofs.RunningLemmas.{early_run, same_load, same_none, same_run, served_so, unserved}
use Rattle.ahost_tool.proofs.running.run_returning_bodies.Goals as goal

-- servers that the words set later are 1 to 8, and a load is small
pub serve-requires-clause-servers : goal.serve-requires-clause-servers
serve-requires-clause-servers g c = asked_few _ c.in-Ok.asked c.in-Ok.ensures.read

pub serve-requires-clause-limits : goal.serve-requires-clause-limits
serve-requires-clause-limits g c = asked_within _ c.in-Ok.asked c.in-Ok.ensures.read

-- ---- words that ask something that is served

pub returns-in-Ok-clause-promise : goal.returns-in-Ok-clause-promise
returns-in-Ok-clause-promise g c = λ ask asks served none.
    same_run _ _ c.in-Ok.asked ask _ _ _ _ _ _ c.in-Ok.ensures.read asks (c.serve.ensures.promise (same_none _ c.in-Ok.asked ask c.in-Ok.ensures.read asks none))

pub returns-in-Ok-clause-load : goal.returns-in-Ok-clause-load
returns-in-Ok-clause-load g c = λ ask asks served. same_load _ _ c.in-Ok.asked ask c.in-Ok.ensures.read asks c.serve.ensures.load

pub returns-in-Ok-clause-refused : goal.returns-in-Ok-clause-refused
returns-in-Ok-clause-refused g c = λ refused. absurd (refused c.in-Ok.asked c.in-Ok.ensures.read
    (served_so _ c.len.result c.in-Ok.asked c.is_served.result (c.len.ensures ∙ c.args.bodies.ok.0) c.is_served.ensures.0 c.if-is_served.true))

-- ---- words that ask something that isn't served

pub returns-in-Ok-2-clause-refused : goal.returns-in-Ok-2-clause-refused
returns-in-Ok-2-clause-refused g c = λ refused. (refl, refl, c.leave.ensures _ _)

pub returns-in-Ok-2-clause-promise : goal.returns-in-Ok-2-clause-promise
returns-in-Ok-2-clause-promise g c = λ ask asks served. absurd
    (unserved _ c.len.result c.in-Ok.asked c.is_served.result (c.len.ensures ∙ c.args.bodies.ok.0) _ ask c.in-Ok.ensures.read asks c.is_served.ensures.1 c.if-is_served.false served)

pub returns-in-Ok-2-clause-load : goal.returns-in-Ok-2-clause-load
returns-in-Ok-2-clause-load g c = λ ask asks served. absurd
    (unserved _ c.len.result c.in-Ok.asked c.is_served.result (c.len.ensures ∙ c.args.bodies.ok.0) _ ask c.in-Ok.ensures.read asks c.is_served.ensures.1 c.if-is_served.false served)

-- ---- words that ask nothing

pub returns-in-Err-Refused-clause-refused : goal.returns-in-Err-Refused-clause-refused
returns-in-Err-Refused-clause-refused g c = λ refused. (refl, refl, c.leave-in-Err-Refused.ensures _ _)

pub returns-in-Err-Refused-clause-promise : goal.returns-in-Err-Refused-clause-promise
returns-in-Err-Refused-clause-promise g c = λ ask asks served. absurd (c.ahost_ask.ensures.refused (c.in-Err-Refused.is ∙ ap Err c.in-Err-Refused.field-0-is) ask asks)

pub returns-in-Err-Refused-clause-load : goal.returns-in-Err-Refused-clause-load
returns-in-Err-Refused-clause-load g c = λ ask asks served. absurd (c.ahost_ask.ensures.refused (c.in-Err-Refused.is ∙ ap Err c.in-Err-Refused.field-0-is) ask asks)

-- ---- want of memory

pub returns-in-Err-NoMemory-clause-promise : goal.returns-in-Err-NoMemory-clause-promise
returns-in-Err-NoMemory-clause-promise g c = λ ask asks served none. rw (c.early-ended.ensures, c.number.ensures) (early_run ask _ _ _ _)

pub returns-in-Err-NoMemory-clause-load : goal.returns-in-Err-NoMemory-clause-load
returns-in-Err-NoMemory-clause-load g c = λ ask asks served. of_each _ (λ load. (refl, refl, rw (c.early-ended.ensures, c.number.ensures) (early_load load _ _ _))) ask.load

-- ---- the bodies

pub returns-in-Ok-2-clause-bodies : goal.returns-in-Ok-2-clause-bodies
returns-in-Ok-2-clause-bodies g c = none_back g.B.Done.name g.B.Done.told g.B.Done.refusal _ _ (c.leave.ensures None 0).no_journal

pub returns-in-Err-Refused-clause-bodies : goal.returns-in-Err-Refused-clause-bodies
returns-in-Err-Refused-clause-bodies g c = none_back g.B.Done.name g.B.Done.told g.B.Done.refusal _ _ (c.leave-in-Err-Refused.ensures None 0).no_journal

pub returns-in-Err-NoMemory-clause-bodies : goal.returns-in-Err-NoMemory-clause-bodies
returns-in-Err-NoMemory-clause-bodies g c = none_back g.B.Done.name g.B.Done.told g.B.Done.refusal _ _ (ap (λ ended. ended.journal) c.early-ended.ensures)
