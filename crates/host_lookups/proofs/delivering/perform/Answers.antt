use Rattle.completion_ticket.specs.States.{CallbackState}
use Rattle.host_lookups.proofs.ExtendLemmas.{accept_takes, cancel_takes, destroy_takes}
use Rattle.host_lookups.proofs.StandingLemmas.{still_accept, still_cancel, still_destroy}
use Rattle.host_lookups.proofs.delivering.perform.Goals as goal

pub returns-in_default-clause-takes : goal.returns-in_default-clause-takes
returns-in_default-clause-takes c = accept_takes (λ (callback : CallbackState). callback.plan) _ c.scripted.result _ _ _ _ c.accept.ensures.done

pub returns-in_default-clause-stands : goal.returns-in_default-clause-stands
returns-in_default-clause-stands c = still_accept (λ (callback : CallbackState). callback.plan) _ c.scripted.result _ _ _ _ c.accept.ensures.done

pub returns-in-Cancel-clause-takes : goal.returns-in-Cancel-clause-takes
returns-in-Cancel-clause-takes c = cancel_takes _ _ _ _ c.cancel.ensures.done

pub returns-in-Cancel-clause-stands : goal.returns-in-Cancel-clause-stands
returns-in-Cancel-clause-stands c = still_cancel _ _ _ _ c.cancel.ensures.done

pub returns-in-Destroy-clause-takes : goal.returns-in-Destroy-clause-takes
returns-in-Destroy-clause-takes c = destroy_takes _ _ _ _ c.destroy.ensures.done

pub returns-in-Destroy-clause-stands : goal.returns-in-Destroy-clause-stands
returns-in-Destroy-clause-stands c = still_destroy _ _ _ _ c.destroy.ensures.done
