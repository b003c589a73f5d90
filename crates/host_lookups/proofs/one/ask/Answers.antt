use Rattle.std.proofs.Common.{arith, inl, inr, refl, ◌∙◌}
use Rattle.chan_types.specs.Plans.{blank}
use Rattle.host_lookups.proofs.AnswerLemmas.{answered, asked_first}
use Rattle.host_lookups.proofs.StallLemmas.{has_stalled, not_disturbed, not_over, stands_asked}
use Rattle.host_lookups.proofs.one.ask.Goals as goal

pub returns-in_ok-copy-in-Completed-clause-answer : goal.returns-in_ok-copy-in-Completed-clause-answer
returns-in_ok-copy-in-Completed-clause-answer g c =
    let call = rw c.in-Ok.is at c.accept.ensures.done in
    let asked = asked_first {T = Unit {0}} (λ quiet. blank 0) _ _ tt _ c.args.channel.now c.accept.new.self c.in_ok-request.ensures refl c.requires.new call in
    answered {T = Unit {0}} (λ quiet. blank 0) (λ quiet. 0) c.in-Completed.ticket _ _ _ _ 0 0 c.accept.new.self c.next.new.desk _ _ _ _ asked call.desk.setting call.lawful
    (c.in_ok-copy-in-Completed.ensures ∙ c.answer.ensures) (rw c.in-Completed.is at c.in_ok-ticket.ensures.comes_to)

pub returns-in_ok-copy-in-Completed-clause-none : goal.returns-in_ok-copy-in-Completed-clause-none
returns-in_ok-copy-in-Completed-clause-none g c = λ is. absurd (cc is)

pub returns-in-WaitFault-clause-none : goal.returns-in-WaitFault-clause-none
returns-in-WaitFault-clause-none g c = λ is. inl (rw c.in-WaitFault.is at c.in_ok-ticket.ensures.comes_to).2

pub returns-in-Stalled-clause-none : goal.returns-in-Stalled-clause-none
returns-in-Stalled-clause-none g c =
    let call = rw c.in-Ok.is at c.accept.ensures.done in
    let asked = asked_first {T = Unit {0}} (λ quiet. blank 0) _ _ tt _ c.args.channel.now c.accept.new.self c.in_ok-request.ensures refl c.requires.new call in
    λ is. inr (λ began stands.
    has_stalled {T = Unit {0}} (λ quiet. blank 0) (λ quiet. 0) _ _ 0 0 c.accept.new.self c.next.new.desk _ _ _ _ asked call.lawful c.args.channel.now.setting began call.desk.setting (omega arith)
    (stands_asked _ _ _ c.args.channel.now c.accept.new.self _ _ began c.requires.new.empty asked call stands) (rw c.in-Stalled.is at c.in_ok-ticket.ensures.comes_to))

pub returns-in-Over-clause-none : goal.returns-in-Over-clause-none
returns-in-Over-clause-none g c =
    let call = rw c.in-Ok.is at c.accept.ensures.done in
    let asked = asked_first {T = Unit {0}} (λ quiet. blank 0) _ _ tt _ c.args.channel.now c.accept.new.self c.in_ok-request.ensures refl c.requires.new call in
    λ is. absurd (not_over {T = Unit {0}} (λ quiet. blank 0) (λ quiet. 0) _ _ 0 0 c.accept.new.self c.next.new.desk _ _ _ _ asked call.lawful (rw c.in-Over.is at c.in_ok-ticket.ensures.comes_to))

pub returns-in-Disturbed-clause-none : goal.returns-in-Disturbed-clause-none
returns-in-Disturbed-clause-none g c =
    let call = rw c.in-Ok.is at c.accept.ensures.done in
    let asked = asked_first {T = Unit {0}} (λ quiet. blank 0) _ _ tt _ c.args.channel.now c.accept.new.self c.in_ok-request.ensures refl c.requires.new call in
    λ is. absurd (not_disturbed {T = Unit {0}} (λ quiet. blank 0) (λ quiet. 0) _ _ 0 0 c.accept.new.self c.next.new.desk _ _ _ _ asked call.lawful (rw c.in-Disturbed.is at c.in_ok-ticket.ensures.comes_to))
