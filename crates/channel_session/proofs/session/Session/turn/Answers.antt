use Rattle.channel_session.proofs.PartLemmas.{cut_behind, rests_inside, turned_then, turns_err}
use Rattle.channel_session.proofs.session.Session.turn.Goals as goal

pub returns-in_err-turned-clause-turns : goal.returns-in_err-turned-clause-turns
returns-in_err-turned-clause-turns g c = λ from rests.
    turns_err c.from_residual.result c.from_residual.ensures.0 _ _
    (cut_behind from _ _ _ c.turn.new.self _ _ _ c.in_err-turned.ensures.goes c.requires.some_pending (rests_inside from _ _ _ _ c.self.view_is rests))

pub returns-clause-turns : goal.returns-clause-turns
returns-clause-turns g c = λ from rests.
    turned_then c.in_ok-turned.turned from _ _ _ c.turn.new.self _ _ c.in_ok-turned.ensures.goes c.in_ok-turned.ensures.reading c.requires.some_pending
    (rests_inside from _ _ _ _ c.self.view_is rests)
