use Rattle.std.proofs.Common.{Ok, refl}
use Rattle.tool_line.proofs.FileLemmas.{failed_apart, large_apart}
use Rattle.adig_tool.proofs.RunningLemmas.{early_run, fault_run, read_run, wanting_run}
use Rattle.adig_tool.proofs.asking.ask.Goals as goal

-- ---- want of memory

pub returns-in_default-clause-promise : goal.returns-in_default-clause-promise
returns-in_default-clause-promise g c = rw (c.early.ensures, c.number.ensures) (early_run c.args.asked c.args.turns _ _ _ c.in_default.ensures.reads)

pub returns-clause-promise : goal.returns-clause-promise
returns-clause-promise g c =
    rw (c.early-in-Err-NoMemory.ensures, c.number-in-Err-NoMemory.ensures)
    (wanting_run c.args.asked c.args.turns _ _ _ _ c.in-Ok.file c.as_str.ensures.value c.in-Ok.ensures.answer c.in-Ok.ensures.cause c.in-Ok.ensures.reads)

-- ---- a file that can't be read

pub returns-in-Err-Failed : goal.returns-in-Err-Failed
returns-in-Err-Failed g c = record {
  promise = fault_run c.args.asked c.args.turns _ _ _ _ _ _ c.in-Ok.file c.as_str.ensures.value c.in-Ok.ensures.answer c.in-Ok.ensures.cause c.in-Ok.ensures.reads c.in-Err-Failed.field-0
      (c.in-Err-Failed.ensures.fault (failed_apart c.in-Err-Failed.field-0 c.in-Err-Failed.field-0-is)) (c.leave.ensures _ _);
  files = c.read.ensures.files;
  origin = refl;
}

pub returns-in-Err-TooLarge-clause-promise : goal.returns-in-Err-TooLarge-clause-promise
returns-in-Err-TooLarge-clause-promise g c =
    fault_run c.args.asked c.args.turns _ _ _ _ _ _ c.in-Ok.file c.as_str.ensures.value c.in-Ok.ensures.answer c.in-Ok.ensures.cause c.in-Ok.ensures.reads c.in-Err-TooLarge.field-0
    (c.in-Err-TooLarge.ensures.fault (large_apart c.in-Err-TooLarge.field-0 c.in-Err-TooLarge.field-0-is)) (c.leave-in-Err-TooLarge.ensures _ _)

-- ---- a file that was read

pub returns-in-Ok-set_options-clause-promise : goal.returns-in-Ok-set_options-clause-promise
returns-in-Ok-set_options-clause-promise g c =
    read_run c.args.asked c.args.turns _ _ _ _ _ _ c.in-Ok.file c.as_str.ensures.value c.in-Ok.ensures.answer c.in-Ok.ensures.cause c.in-Ok.ensures.reads (Ok c.in-Ok-set_options.options) c.in-Ok-set_options.ensures.read c.resolve.ensures.promise
