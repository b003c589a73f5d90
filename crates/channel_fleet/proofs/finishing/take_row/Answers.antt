use Rattle.std.proofs.Common.{◌∙◌, ◌∷◌, ◌++◌, [], ap, append_assoc, arith, length}
use Rattle.std.proofs.lemmas.List.{length-map}
use Rattle.channel_fleet.specs.Views.{HelmView, first_berths}
use Rattle.channel_fleet.proofs.RowLemmas.{first_len}
use Rattle.channel_fleet.proofs.finishing.take_row.Goals as goal

pub push_reserved-requires : goal.push_reserved-requires
push_reserved-requires g c =
    omega (
      arith,
      c.requires.room,
      ap (λ (h : HelmView). h.turner.seats) c.helm.view_is,
      c.helm.invariant.1,
      c.take_firsts.ensures.room,
      ap length c.take_firsts.ensures.row,
      length-map (first_berths c.args.passes.now.items) (λ b. b.pass),
      first_len c.args.passes.now.items c.requires.some,
      c.args.passes.now.ok.0,
      c.take_firsts.new.row.ok.0,
    )

pub push_reserved-requires-2 : goal.push_reserved-requires-2
push_reserved-requires-2 g c =
    omega (
      arith,
      c.requires.room,
      ap (λ (h : HelmView). h.turner.seats) c.helm.view_is,
      c.helm.invariant.1,
      c.take_firsts.ensures.room,
      ap length c.take_firsts.ensures.row,
      length-map (first_berths c.args.passes.now.items) (λ b. b.pass),
      first_len c.args.passes.now.items c.requires.some,
      c.args.passes.now.ok.0,
      c.take_firsts.new.row.ok.0,
      c.push_reserved.ensures.len,
      c.push_reserved.ensures.capacity,
    )

pub returns-clause-row : goal.returns-clause-row
returns-clause-row g c =
    rw (← c.helm.view_is)
    (c.push_reserved-2.ensures.items ∙ ap (λ l. l ++ c.helm.inside.turner ∷ []) (c.push_reserved.ensures.items ∙ ap (λ l. l ++ c.helm.inside.caller ∷ []) c.take_firsts.ensures.row) ∙ append_assoc _ (c.helm.inside.caller ∷ []) (c.helm.inside.turner ∷ []))
