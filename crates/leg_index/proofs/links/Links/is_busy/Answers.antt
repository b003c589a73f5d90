use Rattle.std.proofs.Common.{subst, ◌∙◌}
use Rattle.leg_index.specs.Links.{FindsUse}
use Rattle.leg_index.proofs.LinkLemmas.{busy_found}
use Rattle.leg_index.proofs.links.Links.is_busy.Goals as goal

pub returns : goal.returns
returns c = c.is_some.ensures ∙ busy_found c.args.server c.args.link c.args.self.now c.find_use.result (subst (λ items. FindsUse c.args.server c.args.link items c.find_use.result) (c.as_slice.ensures.value ∙ c.self.view_is) c.find_use.ensures)
