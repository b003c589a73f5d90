use Rattle.channel_table.proofs.Base.{ap, arith, length, subst, sym, ◌-◌, ◌<◌, ◌≡◌, ◌∙◌, used, AreFlown, left_of, left_second, over_left, has_left, row_set, all_lookups, Row, Flown}
use Rattle.channel_table.proofs.LeaveLemmas.{sets_flown, sets_linked}
use Rattle.channel_table.proofs.TallyLemmas.{becomes_tally}
use Rattle.channel_table.proofs.table.leaving.set_found.Goals as goal

pub returns-clause-flown : goal.returns-clause-flown
returns-clause-flown g c = λ are.
    let list = c.args.list.now in
    let sets = c.set_at.ensures.sets in
    let same : c.row_at-row.result.now ≡ sets.row = c.row_at-row.ensures ∙ sets.is c.row_at-row.result.now in
    subst (λ (f : Flown). AreFlown f (all_lookups c.set_at.new.rows.items)) (sym (c.forget_left.ensures ∙ ap (λ (r : Row g.row.T.Denot). left_of (has_left list r.first) (left_second list r.second) r c.args.flown.now) same))
    (sets_flown list c.args.index c.args.rows.now.items c.set_at.new.rows.items sets c.args.flown.now are)

pub returns-clause-linked : goal.returns-clause-linked
returns-clause-linked g c = λ are.
    let list = c.args.list.now in
    let sets = c.set_at.ensures.sets in
    let same : c.row_at-row.result.now ≡ sets.row = c.row_at-row.ensures ∙ sets.is c.row_at-row.result.now in
    sets_linked list c.args.index c.args.rows.now.items c.set_at.new.rows.items sets c.args.links.now c.end_left_in.new.links are
    (λ server link. subst (λ (r : Row g.row.T.Denot). used server link c.end_left_in.new.links ≡ used server link c.args.links.now - over_left list server link r) same (c.end_left_in.ensures server link))

pub returns-clause-tally : goal.returns-clause-tally
returns-clause-tally g c = λ is.
    let sets = c.set_at.ensures.sets in
    let inside : c.args.index < length c.args.rows.now.items = omega (arith, c.requires) in
    becomes_tally c.args.index c.args.rows.now.items c.set_at.new.rows.items sets.row (row_set c.args.list.now sets.row) sets.is sets.parts sets.becomes inside (omega (arith, c.set_at.new.rows.ok.0, c.set_at.new.rows.small.0, c.set_at.new.rows.small.1))
    c.args.tally c.of_row-before.result c.of_row.result c.moved.result c.row_at-row.result.now c.row_at.result.now c.of_row-before.ensures c.row_at-row.ensures c.of_row.ensures c.row_at.ensures is c.moved.ensures
