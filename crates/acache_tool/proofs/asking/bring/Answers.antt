use Rattle.std.proofs.Common.{ap, ◌∙◌}
use Rattle.chan_types.specs.Plans.{blank}
use Rattle.acache_tool.proofs.BringLemmas.{brings_answer, brings_cut, brings_stalled, brings_uncopied, brings_wait_fault}
use Rattle.acache_tool.proofs.IdleLemmas.{not_disturbed, not_over}
use Rattle.acache_tool.proofs.asking.bring.Goals as goal

pub returns-in_err-ticket-clause-brings : goal.returns-in_err-ticket-clause-brings
returns-in_err-ticket-clause-brings g c =
    brings_cut {T = Unit {0}} (λ quiet. blank 0) (λ quiet. 0) (g.W.World.wait_faults c.args.world.now) (g.W.World.wait_faults c.next_within.new.world) c.args.asker.now.alone c.next_within.new.desk c.args.asker.now.session c.next_within.new.self c.args.asker.now.calls c.args.asker.now.left c.next_within.new.left (g.W.World.log c.args.world.now) (g.W.World.log c.next_within.new.world)
    c.in_err-ticket.field-0.0 c.from_residual.result c.from_residual.ensures.0 c.in_err-ticket.ensures.comes_by

pub returns-in_err-answer-in-Completed-clause-brings : goal.returns-in_err-answer-in-Completed-clause-brings
returns-in_err-answer-in-Completed-clause-brings g c =
    brings_uncopied {T = Unit {0}} (λ quiet. blank 0) (λ quiet. 0) (g.W.World.wait_faults c.args.world.now) (g.W.World.wait_faults c.next_within.new.world) c.args.asker.now.alone c.next_within.new.desk c.args.asker.now.session c.next_within.new.self c.args.asker.now.calls c.args.asker.now.left c.next_within.new.left (g.W.World.log c.args.world.now) (g.W.World.log c.next_within.new.world)
    c.in-Completed.ticket c.spend-quiet.result.1 c.add.new.self c.from_residual-in_err-answer-in-Completed.result c.from_residual-in_err-answer-in-Completed.ensures.0
    (ap (λ p. p.1) c.spend-quiet.ensures) c.add.ensures (rw c.in-Completed.is at c.in_ok-ticket.ensures.comes_by)

pub returns-in_ok-answer-in-Completed-clause-brings : goal.returns-in_ok-answer-in-Completed-clause-brings
returns-in_ok-answer-in-Completed-clause-brings g c =
    brings_answer {T = Unit {0}} (λ quiet. blank 0) (λ quiet. 0) (g.W.World.wait_faults c.args.world.now) (g.W.World.wait_faults c.next_within.new.world) c.args.asker.now.alone c.next_within.new.desk c.args.asker.now.session c.next_within.new.self c.args.asker.now.calls c.args.asker.now.left c.next_within.new.left (g.W.World.log c.args.world.now) (g.W.World.log c.next_within.new.world)
    c.in-Completed.ticket c.in_ok-answer-in-Completed.field-0 c.spend-quiet.result.1 c.add.new.self (c.in_ok-answer-in-Completed.ensures ∙ c.answer.ensures)
    (ap (λ p. p.1) c.spend-quiet.ensures) c.add.ensures (rw c.in-Completed.is at c.in_ok-ticket.ensures.comes_by)

pub returns-in-WaitFault-clause-brings : goal.returns-in-WaitFault-clause-brings
returns-in-WaitFault-clause-brings g c =
    brings_wait_fault {T = Unit {0}} (λ quiet. blank 0) (λ quiet. 0) (g.W.World.wait_faults c.args.world.now) (g.W.World.wait_faults c.next_within.new.world) c.args.asker.now.alone c.next_within.new.desk c.args.asker.now.session c.next_within.new.self c.args.asker.now.calls c.args.asker.now.left c.next_within.new.left (g.W.World.log c.args.world.now) (g.W.World.log c.next_within.new.world)
    (rw c.in-WaitFault.is at c.in_ok-ticket.ensures.comes_by)

pub returns-in-Stalled-clause-brings : goal.returns-in-Stalled-clause-brings
returns-in-Stalled-clause-brings g c =
    brings_stalled {T = Unit {0}} (λ quiet. blank 0) (λ quiet. 0) (g.W.World.wait_faults c.args.world.now) (g.W.World.wait_faults c.next_within.new.world) c.args.asker.now.alone c.next_within.new.desk c.args.asker.now.session c.next_within.new.self c.args.asker.now.calls c.args.asker.now.left c.next_within.new.left (g.W.World.log c.args.world.now) (g.W.World.log c.next_within.new.world)
    (rw c.in-Stalled.is at c.in_ok-ticket.ensures.comes_by)

pub unreachable-requires : goal.unreachable-requires
unreachable-requires g c =
    let came = rw c.in-Over.is at c.in_ok-ticket.ensures.comes_by in
    absurd (not_over c.args.asker.now.alone c.next_within.new.desk came.0 c.args.asker.now.session c.next_within.new.self (g.W.World.log c.args.world.now) (g.W.World.log c.next_within.new.world) c.requires.asked came.2.0 came.2.1)

pub unreachable-requires-in-Disturbed : goal.unreachable-requires-in-Disturbed
unreachable-requires-in-Disturbed g c =
    let came = rw c.in-Disturbed.is at c.in_ok-ticket.ensures.comes_by in
    absurd (not_disturbed c.args.asker.now.alone c.next_within.new.desk came.2.1)
