use Rattle.std.proofs.Common.{◌∙◌, ◌-◌, ap, arith, rules}
use Rattle.ticket_queue.specs.Passes.{PassState, new_pass}
use Rattle.ticket_queue.proofs.making.add_receivers.Goals as goal

pub loop-preserved : goal.loop-preserved
loop-preserved g c =
    let i = c.loop.invariant in (
      c.cut-other.ensures.first ∙ ap (λ (p : PassState g.row.M.Denot). record p { share = p.share - 1 }) i.0 ∙ ap (new_pass c.args.queue.now) (omega arith),
      search rules,
      search rules,
      search rules,
      search rules,
    )
