use Rattle.std.proofs.Common.{arith, sym}
use Rattle.worker_rounds.proofs.CrewLemmas.{front}
use Rattle.worker_rounds.proofs.whole.team_of.Goals as goal

pub returns-clause-parts : goal.returns-clause-parts
returns-clause-parts g c = sym (front c.args.passes.items c.remove-owner.result c.remove-owner.new.self.items (omega (arith, c.requires, c.args.passes.ok.0)) c.remove-owner.ensures.value c.remove-owner.ensures.items)
