use Rattle.channel_table.proofs.Base.{◌≡◌, ◌-◌, arith, refl, sym, ap, length, ◌∙◌, [], keyed_from}
use Rattle.resolv_options.specs.Values.{OptionValues}
use Rattle.channel_table.proofs.Counting.{counted_first}
use Rattle.channel_table.proofs.table.Table.make.Goals as goal

pub invariant_of-result-3 : goal.invariant_of-result-3
invariant_of-result-3 g c =
    let told = g.J.ChannelJournal.told in
    let none : told c.reserve.new.self ≡ [] = c.reserve.ensures.told ∙ c.in_ok-journal.ensures in
    let same = ap (λ (o : OptionValues). o.servers) (sym c.options.view_is) in
    let count = c.len-count.ensures ∙ ap length (c.servers.ensures.value ∙ same) in
    record {
      limits = c.options.invariant;
      lawful = rw none (record { allowed = tt });
      stands = rw (none, c.in_ok-make.ensures, c.new.ensures.items) (record { stand = record { pending_are = refl; ready_are = refl; flying_are = record { as_many = λ test. refl } }; each_row = tt; each_ticket = tt });
      counted = rw none (counted_first _ c.in_ok-list.list c.in_ok-counts.counts (c.len-count.result - 1) c.len-count.result c.options.invariant
          (c.in_ok-list.ensures ∙ ap (keyed_from 0) (c.as_slice.ensures ∙ c.servers-2.ensures.value ∙ same)) c.in_ok-counts.ensures count (omega (arith, count, c.options.invariant.some_server)));
      accepts = rw none refl;
      destroyed = rw none refl;
      few = omega arith;
      few_links = omega arith;
      few_starts = omega arith;
      room = omega (arith, c.in_ok-reserve.ensures.room, ap length c.in_ok-make.ensures, c.new.ensures.len);
      fits = omega (arith, ap length none, ap length c.in_ok-make.ensures, c.new.ensures.len);
      room_ready = omega (arith, ap length c.in_ok-make.ensures, c.new.ensures.len);
    }
