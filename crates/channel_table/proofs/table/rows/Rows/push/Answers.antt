use Rattle.channel_table.proofs.Base.{ap, arith, sym, subst, map, length, List, [], ◌∷◌, ◌<◌, ℕ, length-append, AllByRecursion, each-append, IsListed, key_of, number_of, Row}
use Rattle.std.specs.FinSet as set
use Rattle.channel_table.proofs.FlownRows.{push_flown}
use Rattle.channel_table.proofs.IndexLemmas.{rising_push}
use Rattle.channel_table.proofs.ListedLemmas.{listed_itself, listed_more}
use Rattle.channel_table.proofs.LinkedLemmas.{push_linked}
use Rattle.channel_table.proofs.TallyLemmas.{push_tally}
use Rattle.channel_table.proofs.table.rows.Rows.push.Goals as goal

pub invariant_of-self : goal.invariant_of-self
invariant_of-self g c =
    let rows : List (Row g.row.T.Denot) = c.self.inside.list.items in
    let legs = c.self.inside.waiting in
    let key = key_of c.args.row.number in
    let newer = subst (λ (rs : List (Row g.row.T.Denot)). AllByRecursion (λ (n : ℕ). n < c.args.row.number) (map number_of rs)) (sym c.self.view_is) c.requires.newer in
    record {
      rising = rw (c.push_back_reserved.ensures.items, c.room_for_row.ensures.items, c.in_ok-held.ensures.ok) (rising_push rows c.args.row c.self.invariant.rising newer);
      flown = rw (c.push_back_reserved.ensures.items, c.room_for_row.ensures.items, c.in_ok-held.ensures.ok) (push_flown c.self.inside.flown rows c.args.row c.requires.idle c.self.invariant.flown);
      linked = rw (c.push_back_reserved.ensures.items, c.room_for_row.ensures.items, c.in_ok-held.ensures.ok) (push_linked c.self.inside.links rows c.self.invariant.linked c.args.row c.requires.idle);
      listed = λ on. rw (c.push_back_reserved.ensures.items, c.room_for_row.ensures.items, c.in-Ok.ensures.listed, c.in_ok-held.ensures.ok)
          (each-append (IsListed (set.insert legs key)) rows (c.args.row ∷ []) (listed_more legs key rows (c.self.invariant.listed on)) ((λ waiting. listed_itself legs c.args.row.number), tt));
      tally = rw (c.push_back_reserved.ensures.items, c.room_for_row.ensures.items, c.in_ok-held.ensures.ok)
          (push_tally rows c.args.row (omega (arith, length-append rows (c.args.row ∷ []), c.in-Ok.ensures.room, c.room_for_row.new.rows.small.0, c.room_for_row.new.rows.ok.0, ap length c.room_for_row.ensures.items)) c.self.inside.tally c.none.result c.of_row-more.result c.moved-self-inside.result c.none.ensures c.of_row-more.ensures c.self.invariant.tally c.moved-self-inside.ensures);
    }
