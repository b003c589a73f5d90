use Rattle.std.proofs.Common.{ap, ◌∙◌}
use Rattle.completion_ticket.specs.States.{CallbackState}
use Rattle.host_lookups.proofs.AnswerLemmas.{asked_once}
use Rattle.host_lookups.proofs.ExtendLemmas.{extends_call, extends_none}
use Rattle.host_lookups.proofs.StandingLemmas.{still_accept, still_none}
use Rattle.host_lookups.proofs.many.accept.Goals as goal

pub returns-in-Ok : goal.returns-in-Ok
returns-in-Ok c =
    let call = rw c.in-Ok.is at c.accept.ensures.done in
    record {
      adds = asked_once (λ (callback : CallbackState). callback.plan) _ _ c.scripted.result _ _ _ _ c.in_ok-request_for.ensures (ap (λ (callback : CallbackState). callback.plan) c.scripted.ensures) c.requires.silent call;
      extends = extends_call _ _ _ _ call;
      stands = still_accept (λ (callback : CallbackState). callback.plan) _ c.scripted.result _ _ _ _ c.accept.ensures.done;
      silent = call.desk.voice ∙ c.requires.silent;
    }

pub returns-in-Err-clause-extends : goal.returns-in-Err-clause-extends
returns-in-Err-clause-extends c = extends_call _ _ _ _ c.accept.ensures.done

pub returns-in-Err-clause-silent : goal.returns-in-Err-clause-silent
returns-in-Err-clause-silent c = c.accept.ensures.done.desk.voice ∙ c.requires.silent

pub returns-in_err-request_for-clause-extends : goal.returns-in_err-request_for-clause-extends
returns-in_err-request_for-clause-extends c = extends_none _

pub returns-in-Err-clause-stands : goal.returns-in-Err-clause-stands
returns-in-Err-clause-stands c = still_accept (λ (callback : CallbackState). callback.plan) _ c.scripted.result _ _ _ _ c.accept.ensures.done

pub returns-in_err-request_for-clause-stands : goal.returns-in_err-request_for-clause-stands
returns-in_err-request_for-clause-stands c = still_none _
