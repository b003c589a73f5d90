use Rattle.std.proofs.Common.{◌∙◌, refl, subst, sym}
use Rattle.ticket_delivery.proofs.PerformLemmas.{HasPerformed, next_performed, none_performed}
use Rattle.ticket_delivery.proofs.performing.perform_all.Goals as goal

pub loop-command-init : goal.loop-command-init
loop-command-init g c = (refl, none_performed c.args.hand.now.commands c.args.by (g.D.CommandDesk.known c.args.desk.now))

pub loop-command-preserved : goal.loop-command-preserved
loop-command-preserved g c = (
  c.next.ensures.orders ∙ c.loop-command.invariant.0,
  subst (HasPerformed c.args.hand.now.commands c.next.new.self.commands c.args.by (g.D.CommandDesk.known c.args.desk.now) (g.D.CommandDesk.known c.perform.new.desk)) (sym c.saturating_add-lost.ensures)
      (next_performed c.args.hand.now.commands c.loop-command.hand.commands c.next.new.self.commands c.in-Some.command c.args.by _ _ _ c.loop-command.lost c.perform.result c.in-Some.ensures.first
      c.loop-command.invariant.1 c.perform.ensures.same c.perform.ensures.performed),
)
