use Rattle.event_runner.proofs.Base.{◌∙◌, ◌<◌, [], ◌∷◌, ◌++◌, length, arith, refl, ap, rules, sym}
use Rattle.event_runner.proofs.OpenLemmas.{keys_next, opens_err, opens_more}
use Rattle.event_runner.proofs.opening.tell_all.Goals as goal

pub returns-in_err-serve-clause-opens : goal.returns-in_err-serve-clause-opens
returns-in_err-serve-clause-opens g c = opens_err _ _ _ _ _ c.loop-key.invariant.log _ _ c.from_residual.ensures.0 c.in_err-serve.ensures.log

pub returns-in_err-push-clause-opens : goal.returns-in_err-push-clause-opens
returns-in_err-push-clause-opens g c =
    let within : c.loop-key.key < length c.args.servers.now = omega arith in
    opens_err _ _ _ _ _ (opens_more _ _ _ _ _ c.loop-key.invariant.log _ within c.in_ok-serve.ensures.log) _ _ c.from_residual-in_err-push.ensures.0 refl

pub loop-key-preserved : goal.loop-key-preserved
loop-key-preserved g c =
    let within : c.loop-key.key < length c.args.servers.now = omega arith in
    record {
      told = c.in_ok-push.ensures.items ∙ ap (λ ks. ks ++ c.loop-key.key ∷ []) c.loop-key.invariant.told ∙ sym (keys_next c.loop-key.key c.args.servers.now within);
      log = opens_more _ _ _ _ _ c.loop-key.invariant.log _ within c.in_ok-serve.ensures.log;
      waits = search rules;
      faults = omega (arith, c.in_ok-serve.ensures.cause.later, c.loop-key.invariant.faults);
      clock = search rules;
      origin = search rules;
    }
