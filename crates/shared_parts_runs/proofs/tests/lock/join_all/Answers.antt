use Rattle.std.proofs.Common.{◌∙◌, ◌++◌, ap, subst, vec_len}
use Rattle.std.specs.Option.{option_to_list}
use Rattle.shared_parts_runs.specs.SeatRow.{HasRest}
use Rattle.shared_parts_runs.proofs.SeatRowLemmas.{goes_on}
use Rattle.shared_parts_runs.proofs.tests.lock.join_all.Goals as goal

pub loop-next-preserved : goal.loop-next-preserved
loop-next-preserved g c =
    let lock = c.args.lock.now in let count = vec_len c.args.seats in let rest = c.pop-in-loop-next.new.self.items in
    let row = c.pop-in-loop-next.ensures.items ∙ ap (λ o. rest ++ option_to_list o) c.in-Some.is in
    goes_on lock count rest c.in-Some.next c.loop-next.all c.join-all.result (subst (λ l. HasRest lock count l c.loop-next.all) row c.loop-next.invariant) c.join-all.ensures
