use Rattle.channel_table.proofs.Base.{ap, ◌∙◌, Deadlines}
use Rattle.std.specs.FinMap as map
use Rattle.channel_table.proofs.FlownLemmas.{put_back}
use Rattle.channel_table.proofs.table.flown.Flown.add.Goals as goal

pub returns-in-Err-clause-err : goal.returns-in-Err-clause-err
returns-in-Err-clause-err c =
    let kept = c.drop_key.ensures.taken ∙ ap (λ (m : Deadlines). map.remove m c.args.leg) c.in_ok-put.ensures.ok ∙ put_back c.args.self.now.deadlines c.args.leg c.args.due c.requires.idle in
    λ i. record { flights = c.in-Err.ensures.err i; deadlines = kept i }
