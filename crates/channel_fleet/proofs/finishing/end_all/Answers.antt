use Rattle.std.proofs.Common.{◌∙◌, ◌≡◌, [], ap, arith, eqb-true, length, subst, sym, vec_len}
use Rattle.std.proofs.lemmas.List.{nil_from_length}
use Rattle.channel_fleet.specs.Finishing.{EachMayFinish, MayFinish}
use Rattle.channel_fleet.proofs.EndingLemmas.{IsRollSoFar, helm_seats, may_later, may_next, no_helm, roll_end, roll_more, roll_none, some_helm}
use Rattle.channel_fleet.proofs.RoundLemmas.{front}
use Rattle.channel_fleet.proofs.RowLemmas.{at_some}
use Rattle.shared_channel.specs.Finishing.{AreAllPasses, Finishes}
use Rattle.shared_channel.specs.Settling.{AreSettled}
use Rattle.channel_fleet.proofs.finishing.end_all.Goals as goal

pub loop-orders-init : goal.loop-orders-init
loop-orders-init g c = (
  c.requires.may_finish,
  omega (arith, c.requires.room, ap length c.requires.none, c.args.parts.ok.0),
  roll_none g.J.ChannelJournal.told c.args.orders c.args.passes.items c.args.helms.items c.args.parts.items c.requires.none,
)

pub remove-requires : goal.remove-requires
remove-requires g c =
    let at = c.loop-orders in
    let first = front at.channels.items c.remove-channel.result c.remove-channel.new.self.items (omega (arith, c.remove-channel.ensures.len, at.channels.ok.0)) c.remove-channel.ensures.value c.remove-channel.ensures.items in
    omega (arith, some_helm c.remove-channel.result c.remove-channel.new.self.items at.passes.items at.helms.items (subst (λ l. EachMayFinish l at.passes.items at.helms.items) first at.invariant.0.each), at.helms.ok.0)

pub take_row-row-requires-clause-some : goal.take_row-row-requires-clause-some
take_row-row-requires-clause-some g c =
    let at = c.loop-orders in
    let first = front at.channels.items c.remove-channel.result c.remove-channel.new.self.items (omega (arith, c.remove-channel.ensures.len, at.channels.ok.0)) c.remove-channel.ensures.value c.remove-channel.ensures.items in
    let helm = front at.helms.items c.remove.result c.remove.new.self.items (omega (arith, c.remove.ensures.len, at.helms.ok.0)) c.remove.ensures.value c.remove.ensures.items in
    at_some c.remove-channel.result c.remove-channel.new.self.items at.passes.items (may_next c.remove-channel.result c.remove-channel.new.self.items c.remove.result c.remove.new.self.items at.invariant.0 first helm).at

pub take_row-row-requires-clause-room : goal.take_row-row-requires-clause-room
take_row-row-requires-clause-room g c =
    let at = c.loop-orders in
    let first = front at.channels.items c.remove-channel.result c.remove-channel.new.self.items (omega (arith, c.remove-channel.ensures.len, at.channels.ok.0)) c.remove-channel.ensures.value c.remove-channel.ensures.items in
    let helm = front at.helms.items c.remove.result c.remove.new.self.items (omega (arith, c.remove.ensures.len, at.helms.ok.0)) c.remove.ensures.value c.remove.ensures.items in
    let may = may_next c.remove-channel.result c.remove-channel.new.self.items c.remove.result c.remove.new.self.items at.invariant.0 first helm in
    omega (arith, helm_seats c.remove-channel.result c.remove-channel.new.self.items at.passes.items c.remove.result may.at may.each.0, at.passes.ok.0)

pub finish-requires-clause-all : goal.finish-requires-clause-all
finish-requires-clause-all g c =
    let at = c.loop-orders in
    let first = front at.channels.items c.remove-channel.result c.remove-channel.new.self.items (omega (arith, c.remove-channel.ensures.len, at.channels.ok.0)) c.remove-channel.ensures.value c.remove-channel.ensures.items in
    let helm = front at.helms.items c.remove.result c.remove.new.self.items (omega (arith, c.remove.ensures.len, at.helms.ok.0)) c.remove.ensures.value c.remove.ensures.items in
    let may = may_next c.remove-channel.result c.remove-channel.new.self.items c.remove.result c.remove.new.self.items at.invariant.0 first helm in
    subst (AreAllPasses c.remove-channel.result) (sym c.take_row-row.ensures.row) may.each.0

pub finish-requires-clause-settled : goal.finish-requires-clause-settled
finish-requires-clause-settled g c =
    let at = c.loop-orders in
    let first = front at.channels.items c.remove-channel.result c.remove-channel.new.self.items (omega (arith, c.remove-channel.ensures.len, at.channels.ok.0)) c.remove-channel.ensures.value c.remove-channel.ensures.items in
    let helm = front at.helms.items c.remove.result c.remove.new.self.items (omega (arith, c.remove.ensures.len, at.helms.ok.0)) c.remove.ensures.value c.remove.ensures.items in
    let may = may_next c.remove-channel.result c.remove-channel.new.self.items c.remove.result c.remove.new.self.items at.invariant.0 first helm in
    subst AreSettled (sym c.take_row-row.ensures.row) may.each.1

pub loop-orders-preserved : goal.loop-orders-preserved
loop-orders-preserved g c =
    let at = c.loop-orders in
    let first = front at.channels.items c.remove-channel.result c.remove-channel.new.self.items (omega (arith, c.remove-channel.ensures.len, at.channels.ok.0)) c.remove-channel.ensures.value c.remove-channel.ensures.items in
    let helm = front at.helms.items c.remove.result c.remove.new.self.items (omega (arith, c.remove.ensures.len, at.helms.ok.0)) c.remove.ensures.value c.remove.ensures.items in
    let may = may_next c.remove-channel.result c.remove-channel.new.self.items c.remove.result c.remove.new.self.items at.invariant.0 first helm in (
      subst (λ l. MayFinish c.remove-channel.new.self.items l c.remove.new.self.items) (sym c.take_row-row.ensures.later) (may_later may),
      omega (arith, at.invariant.1, c.remove-channel.ensures.len, c.push_reserved.ensures.len, c.push_reserved.ensures.capacity),
      subst (λ l. IsRollSoFar g.J.ChannelJournal.told c.args.orders c.args.passes.items c.args.helms.items l c.remove.new.self.items c.push_reserved.new.self.items) (sym c.take_row-row.ensures.later)
          (roll_more g.J.ChannelJournal.told c.args.orders c.args.passes.items c.args.helms.items at.passes.items c.remove.result c.remove.new.self.items at.parts.items c.push_reserved.new.self.items c.finish.result
          (subst (λ l. IsRollSoFar g.J.ChannelJournal.told c.args.orders c.args.passes.items c.args.helms.items at.passes.items l at.parts.items) helm at.invariant.2) (subst (λ l. Finishes g.J.ChannelJournal.told c.args.orders l c.finish.result) c.take_row-row.ensures.row c.finish.ensures) c.push_reserved.ensures.items),
    )

pub returns : goal.returns
returns g c =
    let at = c.loop-orders in
    let zero : vec_len at.channels ≡ 0 = eqb-true _ _ (sym c.is_empty.ensures ∙ c.loop-orders-test.false) in
    let none : at.channels.items ≡ [] = nil_from_length at.channels.items (omega (arith, zero, at.channels.ok.0)) in
    let no_more : at.helms.items ≡ [] = no_helm at.passes.items at.helms.items (subst (λ l. EachMayFinish l at.passes.items at.helms.items) none at.invariant.0.each) in
    roll_end g.J.ChannelJournal.told c.args.orders c.args.passes.items c.args.helms.items at.passes.items at.parts.items (subst (λ l. IsRollSoFar g.J.ChannelJournal.told c.args.orders c.args.passes.items c.args.helms.items at.passes.items l at.parts.items) no_more at.invariant.2)

pub destroy_empty-requires : goal.destroy_empty-requires
destroy_empty-requires g c = eqb-true _ _ (sym c.is_empty.ensures ∙ c.loop-orders-test.false)

pub destroy_empty-requires-2 : goal.destroy_empty-requires-2
destroy_empty-requires-2 g c =
    let at = c.loop-orders in
    let zero : vec_len at.channels ≡ 0 = eqb-true _ _ (sym c.is_empty.ensures ∙ c.loop-orders-test.false) in
    let none : at.channels.items ≡ [] = nil_from_length at.channels.items (omega (arith, zero, at.channels.ok.0)) in
    omega (arith, ap length (no_helm at.passes.items at.helms.items (subst (λ l. EachMayFinish l at.passes.items at.helms.items) none at.invariant.0.each)), at.helms.ok.0)
