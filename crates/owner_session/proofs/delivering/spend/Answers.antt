use Rattle.std.proofs.Common.{rules, ◌∙◌, ◌∷◌, ◌++◌, [], ap, refl}
use Rattle.owner_session.proofs.delivering.spend.Goals as goal

pub returns : goal.returns
returns g c = record {
  is_called = c.spend-called.ensures.called;
  calls = c.add.ensures ∙ ap (λ call. c.args.caller.now.calls ++ call ∷ []) c.spend-called.ensures.call;
  count = c.spend-called.result.2;
  performed = c.spend-called.ensures.performed;
  lost = search rules;
  voice = c.spend-called.ensures.same.voice;
  hand = c.spend-called.ensures.hand;
  places = refl;
}
