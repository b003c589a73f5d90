use Rattle.std.proofs.Common.{◌≡◌, ◌∙◌, refl}
use Rattle.seat_lock.proofs.NewLemmas.{new_lock}
use Rattle.seat_lock.proofs.making.make.Goals as goal

pub returns-clause-made : goal.returns-clause-made
returns-clause-made g c =
    let laid = c.in-Ok-laid.ensures in
    let found_lock : c.found.new.token.table_id ≡ c.in-Ok-laid.table.shared.table_id = c.found.ensures.token.0 ∙ laid.table.2 in
    let give_lock : c.give.new.token.table_id ≡ c.in-Ok-laid.table.shared.table_id = c.give.ensures.token.0 ∙ (c.add_others.ensures.token.0 ∙ found_lock) in
    new_lock g.S.Kept.stands c.in-Ok-laid.table.shared.table_id (g.S.Kept.setting c.args.state) c.args.seats c.requires.few.0 c.args.state c.requires.empty c.in-Ok-laid.token.me c.found.new.token.me c.add_others.new.token.me c.give.new.token.me c.insert.new.self.items laid.first c.found.ensures.founded c.add_others.ensures.first c.give.ensures.gave
    (rw (c.insert.ensures.items, c.unwrap.ensures, c.add_others.ensures.others, found_lock, give_lock) refl)
