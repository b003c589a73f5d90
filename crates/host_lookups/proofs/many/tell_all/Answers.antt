use Rattle.std.proofs.Common.{ap, arith, inl, inr, length, length-append, refl, [], ◌∙◌, ◌∷◌}
use Rattle.std.specs.Prelude.{Ok}
use Rattle.channel_session.specs.declared.progress.Progress.TheVariants.{Disturbed, Over, Stalled, WaitFault}
use Rattle.completion_ticket.specs.States.{token_name}
use Rattle.host_lookups.proofs.ExtendLemmas.{came_none, came_on, cut_none, extends_none, extends_on, extends_then, fates_later, fates_more}
use Rattle.host_lookups.proofs.GoingLemmas.{on_by, on_none, on_still, on_then, stalls_on}
use Rattle.net_world.proofs.CauseLemmas.{rose_within}
use Rattle.channel_session.proofs.Theorems.{undisturbed}
use Rattle.channel_table.specs.Calling.{known_by_owner}
use Rattle.host_lookups.proofs.many.tell_all.Goals as goal

pub loop-round-init : goal.loop-round-init
loop-round-init g c = record { extends = extends_none _; fates = c.requires.fates; idle = ap (λ hand. hand.commands) c.in_ok-hand.ensures; waits = omega arith; origin = refl; stands = on_none _; count = omega arith }

pub loop-round-preserved : goal.loop-round-preserved
loop-round-preserved g c =
    let came = extends_then _ _ _ c.loop-round.invariant.extends (extends_on _ _ (came_on (λ callback. callback.plan) token_name _ _ _ _ _ _ c.next.ensures.comes_to)) in
    let more = fates_more (λ callback. callback.plan) token_name c.in-Completed.ticket _ _ _ 0 0 _ _ _ _ _ _ c.loop-round.invariant.extends.setting c.loop-round.invariant.fates (rw c.in-Completed.is at c.in_ok-ticket.ensures.comes_to) in
    record {
      extends = extends_then _ _ _ came c.deliver.ensures.extends;
      fates = rw (c.add.ensures, c.deliver.ensures.told) (fates_later _ _ _ _ more.0 more.1 c.deliver.ensures.extends c.deliver.ensures.takes);
      idle = c.deliver.ensures.idle;
      waits = omega (arith, c.loop-round.invariant.waits, c.next.ensures.waits);
      origin = c.next.ensures.origin ∙ c.loop-round.invariant.origin;
      stands = on_then _ _ _ (on_then _ _ _ c.loop-round.invariant.stands (on_by _ _ _ _ (rw c.in-Completed.is at c.in_ok-ticket.ensures.comes_to).0.2)) (on_still _ _ _ _ c.deliver.ensures.stands);
      count = omega (arith, ap length c.add.ensures, length-append c.loop-round.calls (c.deliver.result ∷ []), c.loop-round.invariant.count);
    }

pub returns-in_err-hand-clause-extends : goal.returns-in_err-hand-clause-extends
returns-in_err-hand-clause-extends g c = extends_none _

pub returns-in_err-ticket-clause-extends : goal.returns-in_err-ticket-clause-extends
returns-in_err-ticket-clause-extends g c = extends_then _ _ _ c.loop-round.invariant.extends (extends_on _ _ (came_on (λ callback. callback.plan) token_name _ _ _ _ _ _ c.next.ensures.comes_to))

pub returns-in_err-ticket-clause-fates : goal.returns-in_err-ticket-clause-fates
returns-in_err-ticket-clause-fates g c =
    fates_later _ _ c.loop-round.channel c.next.new.desk c.loop-round.invariant.extends.setting c.loop-round.invariant.fates (extends_on _ _ (came_on (λ callback. callback.plan) token_name _ _ _ _ _ _ c.next.ensures.comes_to))
    (cut_none _ c.loop-round.channel c.next.new.desk c.loop-round.session c.next.new.self (g.W.World.log c.loop-round.world) (g.W.World.log c.next.new.world) c.in_err-ticket.ensures.comes_to)

pub returns-in-Over-clause-extends : goal.returns-in-Over-clause-extends
returns-in-Over-clause-extends g c = extends_then _ _ _ c.loop-round.invariant.extends (extends_on _ _ (came_on (λ callback. callback.plan) token_name _ _ _ _ _ _ c.next.ensures.comes_to))

pub returns-in-Over-clause-fates : goal.returns-in-Over-clause-fates
returns-in-Over-clause-fates g c =
    fates_later _ _ c.loop-round.channel c.next.new.desk c.loop-round.invariant.extends.setting c.loop-round.invariant.fates (extends_on _ _ (came_on (λ callback. callback.plan) token_name _ _ _ _ _ _ c.next.ensures.comes_to))
    (came_none (λ callback. callback.plan) token_name _ (g.W.World.wait_faults c.loop-round.world) (g.W.World.wait_faults c.next.new.world) (Ok Over) c.loop-round.channel c.next.new.desk c.loop-round.session c.next.new.self
    (g.W.World.log c.loop-round.world) (g.W.World.log c.next.new.world) refl (rw c.in-Over.is at c.in_ok-ticket.ensures.comes_to))

pub returns-in-WaitFault-clause-extends : goal.returns-in-WaitFault-clause-extends
returns-in-WaitFault-clause-extends g c = extends_then _ _ _ c.loop-round.invariant.extends (extends_on _ _ (came_on (λ callback. callback.plan) token_name _ _ _ _ _ _ c.next.ensures.comes_to))

pub returns-in-WaitFault-clause-fates : goal.returns-in-WaitFault-clause-fates
returns-in-WaitFault-clause-fates g c =
    fates_later _ _ c.loop-round.channel c.next.new.desk c.loop-round.invariant.extends.setting c.loop-round.invariant.fates (extends_on _ _ (came_on (λ callback. callback.plan) token_name _ _ _ _ _ _ c.next.ensures.comes_to))
    (came_none (λ callback. callback.plan) token_name _ (g.W.World.wait_faults c.loop-round.world) (g.W.World.wait_faults c.next.new.world) (Ok WaitFault) c.loop-round.channel c.next.new.desk c.loop-round.session c.next.new.self
    (g.W.World.log c.loop-round.world) (g.W.World.log c.next.new.world) refl (rw c.in-WaitFault.is at c.in_ok-ticket.ensures.comes_to))

pub returns-in-Stalled-clause-extends : goal.returns-in-Stalled-clause-extends
returns-in-Stalled-clause-extends g c = extends_then _ _ _ c.loop-round.invariant.extends (extends_on _ _ (came_on (λ callback. callback.plan) token_name _ _ _ _ _ _ c.next.ensures.comes_to))

pub returns-in-Stalled-clause-fates : goal.returns-in-Stalled-clause-fates
returns-in-Stalled-clause-fates g c =
    fates_later _ _ c.loop-round.channel c.next.new.desk c.loop-round.invariant.extends.setting c.loop-round.invariant.fates (extends_on _ _ (came_on (λ callback. callback.plan) token_name _ _ _ _ _ _ c.next.ensures.comes_to))
    (came_none (λ callback. callback.plan) token_name _ (g.W.World.wait_faults c.loop-round.world) (g.W.World.wait_faults c.next.new.world) (Ok Stalled) c.loop-round.channel c.next.new.desk c.loop-round.session c.next.new.self
    (g.W.World.log c.loop-round.world) (g.W.World.log c.next.new.world) refl (rw c.in-Stalled.is at c.in_ok-ticket.ensures.comes_to))

pub returns-in-Disturbed-clause-extends : goal.returns-in-Disturbed-clause-extends
returns-in-Disturbed-clause-extends g c = extends_then _ _ _ c.loop-round.invariant.extends (extends_on _ _ (came_on (λ callback. callback.plan) token_name _ _ _ _ _ _ c.next.ensures.comes_to))

pub returns-in-Disturbed-clause-fates : goal.returns-in-Disturbed-clause-fates
returns-in-Disturbed-clause-fates g c =
    fates_later _ _ c.loop-round.channel c.next.new.desk c.loop-round.invariant.extends.setting c.loop-round.invariant.fates (extends_on _ _ (came_on (λ callback. callback.plan) token_name _ _ _ _ _ _ c.next.ensures.comes_to))
    (came_none (λ callback. callback.plan) token_name _ (g.W.World.wait_faults c.loop-round.world) (g.W.World.wait_faults c.next.new.world) (Ok Disturbed) c.loop-round.channel c.next.new.desk c.loop-round.session c.next.new.self
    (g.W.World.log c.loop-round.world) (g.W.World.log c.next.new.world) refl (rw c.in-Disturbed.is at c.in_ok-ticket.ensures.comes_to))

pub returns-in-Over-clause-over : goal.returns-in-Over-clause-over
returns-in-Over-clause-over g c = λ all. (rw c.in-Over.is at c.in_ok-ticket.ensures.comes_to).1

pub returns-in-Over-clause-part : goal.returns-in-Over-clause-part
returns-in-Over-clause-part g c = λ is. absurd (cc is)

pub returns-in-WaitFault-clause-part : goal.returns-in-WaitFault-clause-part
returns-in-WaitFault-clause-part g c = λ is. inl (rose_within _ _ _ _ c.loop-round.invariant.waits c.next.ensures.waits (rw c.in-WaitFault.is at c.in_ok-ticket.ensures.comes_to).2 (omega arith))

pub returns-in-Stalled-clause-part : goal.returns-in-Stalled-clause-part
returns-in-Stalled-clause-part g c =
    let come = rw c.in-Stalled.is at c.in_ok-ticket.ensures.comes_to in
    λ is. inr (inl (stalls_on _ _ _ _ c.loop-round.invariant.stands come.0 come.1.some))

pub returns-in-Disturbed-clause-part : goal.returns-in-Disturbed-clause-part
returns-in-Disturbed-clause-part g c = λ is. absurd (undisturbed (known_by_owner c.loop-round.channel) (known_by_owner c.next.new.desk) refl refl (rw c.in-Disturbed.is at c.in_ok-ticket.ensures.comes_to).1)

pub returns-clause-part : goal.returns-clause-part
returns-clause-part g c = λ is. inr (inr (omega (arith, c.loop-round.invariant.count, c.loop-round-test.false)))
