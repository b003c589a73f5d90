use Rattle.channel_table.proofs.Base.{List, ap₂, arith, false, length, subst, sym, ◌<◌, ◌∙◌, ◌≡◌, ℕ, list_any, IfSome, Flying, Key, IsApart, AreFlown, begun_flown, all_lookups, lookup_at, WaitsAt, row_has_id, Row, Lookup, Flown}
use Rattle.query_machine.specs.Legs.{attempt_from}
use Rattle.std.specs.FinMap as map
use Rattle.channel_table.proofs.FlownRows.{begin_found, leg_idle}
use Rattle.channel_table.proofs.IndexLemmas.{begins_listed, begins_rising}
use Rattle.channel_table.proofs.LinkedLemmas.{begins_linked, link_fits}
use Rattle.channel_table.proofs.TallyLemmas.{begins_tally}
use Rattle.channel_table.proofs.table.rows.Rows.begin.Goals as goal

pub add_attempt-requires : goal.add_attempt-requires
add_attempt-requires g c =
    let rows : List (Row g.row.T.Denot) = c.self.inside.list.items in
    let apart = subst (IsApart c.args.index c.args.is_second) (sym c.self.view_is) c.requires.apart in
    record {
      idle = subst (λ (k : Key). map.contains_key c.self.inside.flown.deadlines k ≡ false) (sym c.key_of_lookup-leg.ensures)
          (leg_idle c.self.inside.flown c.args.index c.args.is_second rows apart c.self.invariant.flown c.lookup.result.now c.row_at.result.now c.row_at.ensures c.lookup.ensures);
      fits = link_fits c.self.inside.links rows c.self.invariant.linked (omega (arith, c.self.inside.list.ok.0, c.self.inside.list.small.0, c.self.inside.list.small.1)) c.args.server c.args.link;
    }

pub leave_waiting-requires-clause-rising : goal.leave_waiting-requires-clause-rising
leave_waiting-requires-clause-rising g c =
    begins_rising (attempt_from c.args.server c.args.link c.args.id c.args.mix c.args.at c.args.wait) c.args.index c.args.is_second c.self.inside.list.items c.begin.new.rows.items c.begin.ensures.begins c.self.invariant.rising

pub invariant_of-self-2 : goal.invariant_of-self-2
invariant_of-self-2 g c =
    let rows : List (Row g.row.T.Denot) = c.self.inside.list.items in
    let new : List (Row g.row.T.Denot) = c.begin.new.rows.items in
    let flying : Flying = attempt_from c.args.server c.args.link c.args.id c.args.mix c.args.at c.args.wait in
    let apart = subst (IsApart c.args.index c.args.is_second) (sym c.self.view_is) c.requires.apart in
    let waits = subst (WaitsAt c.args.index c.args.is_second) (sym c.self.view_is) c.requires.waits in
    let free = subst (λ (rs : List (Row g.row.T.Denot)). list_any (row_has_id c.args.id) rs ≡ false) (sym c.self.view_is) c.requires.free in
    let begins = c.begin.ensures.begins in
    let inside = subst (λ (rs : List (Row g.row.T.Denot)). c.args.index < length rs) (sym c.self.view_is) c.requires.inside in
    let told = subst (λ (r : Row g.row.T.Denot). IfSome (lookup_at c.args.is_second r) (λ (s : Lookup). c.lookup.result.now ≡ s)) (c.row_at.ensures ∙ begins.is c.row_at.result.now) c.lookup.ensures in
    record {
      rising = begins_rising flying c.args.index c.args.is_second rows new begins c.self.invariant.rising;
      flown = subst (λ (f : Flown). AreFlown f (all_lookups new)) (sym (c.in_ok-add_attempt.ensures.flown ∙ ap₂ (λ (k : Key) (due : ℕ). begun_flown k c.args.id due c.self.inside.flown) c.key_of_lookup-leg.ensures c.saturating_add-due.ensures))
          (begin_found c.self.inside.flown c.args.index c.args.is_second rows apart c.self.invariant.flown c.lookup.result.now flying new begins waits free told);
      linked = begins_linked c.self.inside.links rows c.self.invariant.linked c.add_attempt.new.links flying c.args.index c.args.is_second new begins waits apart c.in_ok-add_attempt.ensures.linked;
      listed = λ on. c.leave_waiting.ensures (begins_listed flying c.args.index c.args.is_second rows new begins c.self.inside.waiting (c.self.invariant.listed on));
      tally = begins_tally flying c.args.index c.args.is_second rows new begins apart waits (omega (arith, c.begin.new.rows.ok.0, c.begin.new.rows.small.0, c.begin.new.rows.small.1)) c.self.inside.tally c.begun-self-inside.result
          c.self.invariant.tally c.begun-self-inside.ensures;
    }
