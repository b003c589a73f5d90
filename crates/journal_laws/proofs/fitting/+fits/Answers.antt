use Rattle.std.proofs.Common.{rules}
use Rattle.journal_laws.proofs.ScriptLemmas.{script_of}
use Rattle.journal_laws.proofs.fitting.+fits.Goals as goal

pub script_fits-returns : goal.script_fits-returns
script_fits-returns t c =
    script_of c.args.script.now c.steps.result.now (search rules) c.steps.ensures.steps c.steps.ensures.few (search rules) c.steps_fit.ensures
