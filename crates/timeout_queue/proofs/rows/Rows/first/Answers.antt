use Rattle.std.proofs.Common.{ap, sym, subst, ◌∙◌}
use Rattle.std.specs.Option.{option_copied}
use Rattle.timeout_queue.specs.Rows.{sooner_of}
use Rattle.timeout_queue.proofs.RowsLemmas.{first_live, leads_sooner, front_leads, rest_leads, Leads}
use Rattle.timeout_queue.proofs.rows.Rows.first.Goals as goal

-- the sooner of the two fronts and of the tree's first
pub returns : goal.returns
returns c = λ live h.
    let rows = c.args.self.now in
    let fronts = leads_sooner _ _ _ _
    (front_leads live rows.row.items (option_copied c.front.result) c.front.ensures h.rising h.led)
    (front_leads live rows.other.items (option_copied c.front-2.result) c.front-2.ensures h.other_rising h.other_led) in
    let all = leads_sooner _ _ _ _ fronts (rest_leads rows.rest c.first.result c.first.ensures.variant c.first.ensures.member c.first.ensures.least) in
    let is = c.sooner.ensures ∙ ap (λ o. sooner_of o (option_copied c.first.result)) c.sooner-front.ensures in
    first_live live rows _ h (subst (Leads _) (sym is) all)
