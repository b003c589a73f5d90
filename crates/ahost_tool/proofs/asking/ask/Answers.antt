use Rattle.std.proofs.Common.{None, ap}
use Rattle.tool_line.proofs.FileLemmas.{failed_apart, large_apart}
use Rattle.owner_session.proofs.Theorems.{none_back}
use Rattle.ahost_tool.proofs.RunningLemmas.{fault_run, good_run, wanting_run}
use Rattle.ahost_tool.proofs.asking.ask.Goals as goal

-- the files were read
pub returns-in-Ok-clause-promise : goal.returns-in-Ok-clause-promise
returns-in-Ok-clause-promise g c =
    good_run c.args.asked _ c.args.turns _ _ _ _ c.as_str.ensures.value c.as_str-2.ensures.value _ _ _ c.in-Ok.options c.in-Ok.hosts c.in-Ok.bytes c.in-Ok.ensures.reads
    (rw (c.report_for.ensures, c.into_vec.ensures) at c.resolve.ensures.promise)

-- ---- a file that can't be read

pub returns-in-Err-Failed-clause-promise : goal.returns-in-Err-Failed-clause-promise
returns-in-Err-Failed-clause-promise g c =
    fault_run c.args.asked _ c.args.turns _ _ _ _ c.as_str.ensures.value c.as_str-2.ensures.value _ _ _ c.in-Err-Failed.field-0
    (failed_apart c.in-Err-Failed.field-0 c.in-Err-Failed.field-0-is) c.in-Err-Failed.ensures.reads (c.leave.ensures _ _)

pub returns-in-Err-TooLarge-clause-promise : goal.returns-in-Err-TooLarge-clause-promise
returns-in-Err-TooLarge-clause-promise g c =
    fault_run c.args.asked _ c.args.turns _ _ _ _ c.as_str.ensures.value c.as_str-2.ensures.value _ _ _ c.in-Err-TooLarge.field-0
    (large_apart c.in-Err-TooLarge.field-0 c.in-Err-TooLarge.field-0-is) c.in-Err-TooLarge.ensures.reads (c.leave-in-Err-TooLarge.ensures _ _)

-- want of memory
pub returns-clause-promise : goal.returns-clause-promise
returns-clause-promise g c =
    rw (c.early-ended.ensures, c.number.ensures)
    (wanting_run c.args.asked _ c.args.turns _ _ _ _ c.as_str.ensures.value c.as_str-2.ensures.value _ c.in-Err-NoMemory.field-0 c.in-Err-NoMemory.field-0-is c.in-Err-NoMemory.ensures.reads)

-- ---- the bodies

pub returns-in-Err-Failed-clause-bodies : goal.returns-in-Err-Failed-clause-bodies
returns-in-Err-Failed-clause-bodies g c = none_back g.B.Done.name g.B.Done.told g.B.Done.refusal _ _ (c.leave.ensures None 0).no_journal

pub returns-in-Err-TooLarge-clause-bodies : goal.returns-in-Err-TooLarge-clause-bodies
returns-in-Err-TooLarge-clause-bodies g c = none_back g.B.Done.name g.B.Done.told g.B.Done.refusal _ _ (c.leave-in-Err-TooLarge.ensures None 0).no_journal

pub returns-clause-bodies : goal.returns-clause-bodies
returns-clause-bodies g c = none_back g.B.Done.name g.B.Done.told g.B.Done.refusal _ _ (ap (λ ended. ended.journal) c.early-ended.ensures)
