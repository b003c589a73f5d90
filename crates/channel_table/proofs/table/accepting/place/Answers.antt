use Rattle.channel_table.proofs.Base.{false, refl, ap, ap₂, ◌∙◌, option_map, flying_in, new_lookup, Asked}
use Rattle.query_machine.specs.declared.leg.Leg as machine
use Rattle.channel_table.proofs.FlownRows.{new_idle}
use Rattle.channel_table.proofs.table.accepting.place.Goals as goal

pub push-requires-clause-idle : goal.push-requires-clause-idle
push-requires-clause-idle g c =
    rw (c.new.ensures, c.in-Ok.ensures) (new_idle c.args.number c.first_number.result c.in-Asks.first c.in-Asks.second c.new-leg.result (ap (λ (l : machine.Leg). flying_in l.phase) c.new-leg.ensures))

pub returns-in-Ok-push-clause-places : goal.returns-in-Ok-push-clause-places
returns-in-Ok-push-clause-places g c =
    rw c.in-Asks.is (
      record {
        number = c.args.number;
        wanted = c.args.wanted;
        first = c.new.result;
        second = c.in-Ok.second;
        empty = false;
        token = c.args.token;
        call = c.args.call;
      },
      record {
        numbered = refl;
        wants = refl;
        first_lookup = c.new.ensures ∙ ap₂ (λ n l. new_lookup c.args.number n c.in-Asks.first l) c.first_number.ensures c.new-leg.ensures;
        second_lookup = c.in-Ok.ensures ∙ ap (λ l. option_map (λ (a : Asked). new_lookup c.args.number 1 a l) c.in-Asks.second) c.new-leg.ensures;
        unpassed = refl;
        for' = refl;
      },
      c.in-Ok-push.ensures.ok,
      refl,
    )
