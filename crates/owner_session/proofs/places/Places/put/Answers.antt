use Rattle.std.proofs.Common.{ap, arith, length}
use Rattle.owner_session.proofs.PlaceLemmas.{left_of, put_nowhere}
use Rattle.owner_session.proofs.places.Places.put.Goals as goal

pub returns-else-index-len : goal.returns-else-index-len
returns-else-index-len g c =
    put_nowhere g.B.Done.name g.B.Done.told c.args.called c.into_body-body.result c.args.self.now
    (left_of g.B.Done.name g.B.Done.told c.args.called c.into_body-body.result c.into_body-body.ensures.given c.into_body-body.ensures.body)
    (omega (arith, c.if-index-len.false, c.len.ensures, c.saturating_sub-index.ensures, c.number.ensures, c.self.inside.back.ok.0, ap (λ places. length places.back) c.self.view_is))
