use Rattle.std.proofs.Common.{ap, false, true, ◌∙◌, ◌≡◌}
use Rattle.completion_ticket.specs.States.{CallbackState}
use Rattle.shared_channel.proofs.Theorems.{stays_accept}
use Rattle.thread_lookups.proofs.AskLemmas.{asks_accepted}
use Rattle.thread_lookups.proofs.asking.ask_one.Goals as goal

pub returns-in-Ok : goal.returns-in-Ok
returns-in-Ok g c = record {
  stays = stays_accept c.args.request c.scripted.result c.accept.result c.args.place.now c.accept.new.self c.accept.ensures.done;
  asked = λ all. asks_accepted c.args.request c.scripted.result c.in-Ok.field-0 c.args.place.now c.accept.new.self
      (ap (λ (callback : CallbackState). callback.plan) c.scripted.ensures ∙ c.blank.ensures) (rw c.in-Ok.is at c.accept.ensures.done);
}

pub returns-in-Err : goal.returns-in-Err
returns-in-Err g c = record {
  stays = stays_accept c.args.request c.scripted.result c.accept.result c.args.place.now c.accept.new.self c.accept.ensures.done;
  asked = λ (all : false ≡ true). absurd (cc all);
}
