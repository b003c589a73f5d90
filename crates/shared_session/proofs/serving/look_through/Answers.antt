use Rattle.std.proofs.Common.{subst, sym}
use Rattle.shared_session.proofs.RoundLemmas.{looking_both}
use Rattle.shared_session.specs.Looking.{LooksBoth}
use Rattle.shared_session.proofs.serving.look_through.Goals as goal

pub returns-clause-looks : goal.returns-clause-looks
returns-clause-looks g c =
    subst (λ b. LooksBoth b c.args.team.owner c.args.team.workers.items c.look_one-owner.result.0 c.look_all-over.new.passes.items) (sym c.both.ensures)
    (looking_both c.look_one-owner.result.1 c.look_all-over.result c.args.team.owner c.args.team.workers.items c.look_one-owner.result.0 c.look_all-over.new.passes.items c.look_one-owner.ensures c.look_all-over.ensures.looks)
