use Rattle.channel_table.proofs.Base.{◌≡◌, ◌∙◌, Option, ap, sym, subst, get_or_read, IfSome, wait_of, lookup_at, Lookup, query_written}
use Rattle.channel_table.proofs.table.start_plan.plan_start.Goals as goal

pub choose_link-link-requires-clause-fits : goal.choose_link-link-requires-clause-fits
choose_link-link-requires-clause-fits g c = c.requires.fits

pub returns-clause-plan : goal.returns-clause-plan
returns-clause-plan g c =
    let found = c.in-Some.ensures.found in
    record {
      found = found;
      free = rw c.find_idle.ensures.same at c.in-Some-free_id.ensures;
      to_server = c.choose-server.ensures;
      over_link = rw c.find_idle.ensures.same at c.choose_link-link.ensures;
      drawn = c.bits_for-bits.ensures;
      given = c.wait_of-wait.ensures ∙ ap (wait_of c.args.options.now c.in-Some.idle.leg.spent) c.in_use.ensures.value;
      listens = rw c.as_slice.ensures at c.address_of-address.ensures;
      asks = λ d.
          let is = found.is d in
          let same = get_or_read c.args.rows.now c.in-Some.idle.index c.row.result.now found.inside (rw c.find_idle.ensures.same at c.row.ensures) d in
          let lookup_is : c.lookup.result.now ≡ is.lookup = subst (λ (o : Option Lookup). IfSome o (λ (one : Lookup). c.lookup.result.now ≡ one)) (ap (lookup_at c.in-Some.idle.is_second) same ∙ is.at) c.lookup.ensures in
          subst (λ (o : Option Lookup). IfSome o (λ (one : Lookup). c.in_ok-message.message ≡ query_written c.args.options.now c.in-Some-free_id.id c.bits_for-bits.result c.in-Some.idle.leg.has_opt one.question)) (sym is.at)
          (c.in_ok-message.ensures ∙ ap (λ (one : Lookup). query_written c.args.options.now c.in-Some-free_id.id c.bits_for-bits.result c.in-Some.idle.leg.has_opt one.question) lookup_is);
    }
