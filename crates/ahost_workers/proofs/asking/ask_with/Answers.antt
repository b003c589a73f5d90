use Rattle.tool_line.proofs.FileLemmas.{failed_apart, large_apart}
use Rattle.ahost_workers.proofs.RunLemmas.{fault_run, good_run, wanting_run}
use Rattle.ahost_workers.proofs.asking.ask_with.Goals as goal

-- the files were read
pub returns-in-Ok-clause-promise : goal.returns-in-Ok-clause-promise
returns-in-Ok-clause-promise g c =
    good_run c.args.asked _ c.args.turns _ _ _ _ c.as_str.ensures.value c.as_str-2.ensures.value _ _ _ c.in-Ok.options c.in-Ok.hosts c.in-Ok.bytes c.in-Ok.ensures.reads
    (rw (c.report_for.ensures, c.from.ensures) at c.resolve_with.ensures.promise)

-- ---- a file that can't be read

pub returns-in-Err-Failed-clause-promise : goal.returns-in-Err-Failed-clause-promise
returns-in-Err-Failed-clause-promise g c =
    fault_run c.args.asked _ c.args.turns _ _ _ _ c.as_str.ensures.value c.as_str-2.ensures.value _ _ _ c.in-Err-Failed.field-0
    (failed_apart c.in-Err-Failed.field-0 c.in-Err-Failed.field-0-is) c.in-Err-Failed.ensures.reads (c.leave.ensures _ _)

pub returns-in-Err-TooLarge-clause-promise : goal.returns-in-Err-TooLarge-clause-promise
returns-in-Err-TooLarge-clause-promise g c =
    fault_run c.args.asked _ c.args.turns _ _ _ _ c.as_str.ensures.value c.as_str-2.ensures.value _ _ _ c.in-Err-TooLarge.field-0
    (large_apart c.in-Err-TooLarge.field-0 c.in-Err-TooLarge.field-0-is) c.in-Err-TooLarge.ensures.reads (c.leave-in-Err-TooLarge.ensures _ _)

-- want of memory
pub returns-clause-promise : goal.returns-clause-promise
returns-clause-promise g c =
    rw (c.early.ensures, c.number.ensures)
    (wanting_run c.args.asked _ c.args.turns _ _ _ _ c.as_str.ensures.value c.as_str-2.ensures.value _ c.in-Err-NoMemory.field-0 c.in-Err-NoMemory.field-0-is c.in-Err-NoMemory.ensures.reads)
