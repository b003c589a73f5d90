use Rattle.std.proofs.Common.{refl}
use Rattle.acache_tool.proofs.running.run.Goals as goal

pub returns-in-None-clause-promise : goal.returns-in-None-clause-promise
returns-in-None-clause-promise g c = λ asked asks. absurd (c.in-None.ensures.refused refl asked asks)
