use Rattle.event_runner.proofs.Base.{arith, refl, ◌∙◌, [], ◌∷◌, state_of}
use Rattle.event_runner.proofs.CallLemmas.{log_stays}
use Rattle.event_runner.proofs.GoesLemmas.{ends_err}
use Rattle.event_runner.proofs.StartLemmas.{asks_joined, asks_stop, goes_drawn, goes_idle, goes_no_id, none_joined, start_stop, stops_start, stops_words, words_logged}
use Rattle.event_runner.proofs.starting.start_one.Goals as goal

pub returns-in_err-word-clause-goes : goal.returns-in_err-word-clause-goes
returns-in_err-word-clause-goes g c = ends_err _ _ _ c.from_residual.ensures.0 _ _ (stops_words c.args.reading _ _ [] (omega arith) refl (c.in_err-word.ensures.log ∙ log_stays _))

pub returns-in_err-bits-clause-goes : goal.returns-in_err-bits-clause-goes
returns-in_err-bits-clause-goes g c =
    ends_err _ _ _ c.from_residual-in_err-bits.ensures.0 _ _ (stops_words c.args.reading _ _ (c.in_ok-word.word ∷ []) (omega arith) refl (c.in_err-bits.ensures.draws ∙ c.in_ok-word.ensures.log))

pub returns-in_err-server-clause-goes : goal.returns-in_err-server-clause-goes
returns-in_err-server-clause-goes g c =
    let drawn = goes_drawn c.args.reading (state_of (g.D.Desk.known c.args.desk.now) c.args.kept.now (g.W.World.log c.args.world.now)) _ c.in_ok-word.word c.in_ok-bits.bits (words_logged _ _ _ _ _ _ c.in_ok-word.ensures.log c.in_ok-bits.ensures.draws) in
    ends_err _ _ _ c.from_residual-in_err-server.ensures.0 _ _ (start_stop c.args.reading _ _ _ _ _ drawn (stops_start c.args.reading _ _ c.in_ok-word.word c.in_ok-bits.bits _ refl c.in_err-server.ensures.done))

pub returns-in_err-ask-in-Started-clause-goes : goal.returns-in_err-ask-in-Started-clause-goes
returns-in_err-ask-in-Started-clause-goes g c =
    let drawn = goes_drawn c.args.reading (state_of (g.D.Desk.known c.args.desk.now) c.args.kept.now (g.W.World.log c.args.world.now)) _ c.in_ok-word.word c.in_ok-bits.bits (words_logged _ _ _ _ _ _ c.in_ok-word.ensures.log c.in_ok-bits.ensures.draws) in
    let asks = rw c.as_slice.ensures at c.in_err-ask-in-Started.ensures.goes in
    ends_err _ _ _ c.from_residual-in_err-ask-in-Started.ensures.0 _ _
    (asks_stop c.args.reading _ _ _ _ _ drawn (asks (g.D.Desk.known c.args.desk.now) c.in_ok-word.word c.in_ok-bits.bits c.in-Started.number c.in-Started.leg c.in-Started.id (rw c.in-Started.is at c.in_ok-server.ensures.done)))

pub returns-in_ok-ask-in-Started-clause-goes : goal.returns-in_ok-ask-in-Started-clause-goes
returns-in_ok-ask-in-Started-clause-goes g c =
    let drawn = goes_drawn c.args.reading (state_of (g.D.Desk.known c.args.desk.now) c.args.kept.now (g.W.World.log c.args.world.now)) _ c.in_ok-word.word c.in_ok-bits.bits (words_logged _ _ _ _ _ _ c.in_ok-word.ensures.log c.in_ok-bits.ensures.draws) in
    let asks = rw c.as_slice.ensures at c.in_ok-ask-in-Started.ensures.goes in
    asks_joined c.args.reading _ _ _ _ _ drawn (asks (g.D.Desk.known c.args.desk.now) c.in_ok-word.word c.in_ok-bits.bits c.in-Started.number c.in-Started.leg c.in-Started.id (rw c.in-Started.is at c.in_ok-server.ensures.done))

pub returns-in-Idle-clause-goes : goal.returns-in-Idle-clause-goes
returns-in-Idle-clause-goes g c =
    let drawn = goes_drawn c.args.reading (state_of (g.D.Desk.known c.args.desk.now) c.args.kept.now (g.W.World.log c.args.world.now)) _ c.in_ok-word.word c.in_ok-bits.bits (words_logged _ _ _ _ _ _ c.in_ok-word.ensures.log c.in_ok-bits.ensures.draws) in
    none_joined c.args.reading _ _ _ _ _ drawn (goes_idle c.args.reading _ _ c.in_ok-word.word c.in_ok-bits.bits (record { rows = refl; told = refl; mix = refl }) refl (rw c.in-Idle.is at c.in_ok-server.ensures.done))

pub returns-in-NoId-clause-goes : goal.returns-in-NoId-clause-goes
returns-in-NoId-clause-goes g c =
    let drawn = goes_drawn c.args.reading (state_of (g.D.Desk.known c.args.desk.now) c.args.kept.now (g.W.World.log c.args.world.now)) _ c.in_ok-word.word c.in_ok-bits.bits (words_logged _ _ _ _ _ _ c.in_ok-word.ensures.log c.in_ok-bits.ensures.draws) in
    none_joined c.args.reading _ _ _ _ _ drawn (goes_no_id c.args.reading _ _ c.in_ok-word.word c.in_ok-bits.bits (record { rows = refl; told = refl; mix = refl }) refl (rw c.in-NoId.is at c.in_ok-server.ensures.done))
