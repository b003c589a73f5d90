use Rattle.std.proofs.Common.{None, Some, option_copied}
use Rattle.leg_index.proofs.WaitingLemmas.{first_seen, front_leads, rest_leads}
use Rattle.leg_index.proofs.waiting.Waiting.first.Goals as goal

-- the lesser of the row's front and the tree's first
pub returns-in-Some : goal.returns-in-Some
returns-in-Some c = first_seen c.self.inside.row.items c.self.inside.rest _ c.self.view_is _ _ (Some c.in-Some.first.now)
    (front_leads c.self.inside.row.items (option_copied c.front.result) c.front.ensures c.self.invariant)
    (rest_leads c.self.inside.rest c.first.result c.first.ensures.variant c.first.ensures.member c.first.ensures.least) c.in-Some.ensures

pub returns-in-None : goal.returns-in-None
returns-in-None c = first_seen c.self.inside.row.items c.self.inside.rest _ c.self.view_is _ _ None
    (front_leads c.self.inside.row.items (option_copied c.front.result) c.front.ensures c.self.invariant)
    (rest_leads c.self.inside.rest c.first.result c.first.ensures.variant c.first.ensures.member c.first.ensures.least) c.in-None.ensures
