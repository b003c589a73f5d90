use Rattle.std.proofs.Common.{Err, ap, refl}
use Rattle.adig_tool.proofs.CookiesLemmas.{early_run_by, same_run_by}
use Rattle.adig_tool.proofs.running.run.Goals as goal

-- ---- words that ask something

pub returns-in-Ok-clause-refused : goal.returns-in-Ok-clause-refused
returns-in-Ok-clause-refused g c = λ refused. absurd (refused c.in-Ok.asked c.in-Ok.ensures.read)

pub returns-in-Ok-clause-promise : goal.returns-in-Ok-clause-promise
returns-in-Ok-clause-promise g c = λ ask asks. same_run_by _ c.in-Ok.asked ask _ _ _ _ _ _ c.in-Ok.ensures.read asks c.ask_by_flag.ensures.promise

-- ---- words that ask nothing

pub returns-in-Err-Refused-clause-refused : goal.returns-in-Err-Refused-clause-refused
returns-in-Err-Refused-clause-refused g c = λ refused. (refl, refl, c.leave_unasked.ensures _ _)

pub returns-in-Err-Refused-clause-promise : goal.returns-in-Err-Refused-clause-promise
returns-in-Err-Refused-clause-promise g c = λ ask asks. absurd (c.in-Err-Refused.ensures.refused (ap Err c.in-Err-Refused.field-0-is) ask asks)

-- ---- want of memory

pub returns-in-Err-NoMemory-clause-promise : goal.returns-in-Err-NoMemory-clause-promise
returns-in-Err-NoMemory-clause-promise g c = λ ask asks. rw c.early.ensures (early_run_by ask _ _ _ _ refl)
