use Rattle.std.proofs.Common.{ℕ, List, refl, ap, ◌∙◌}
use Rattle.net_world.specs.declared.log.WorldCall.TheVariants.{Serve}
use Rattle.cookie_world.specs.Rounds.{told}
use Rattle.cookie_world.specs.State.{state_of, with_peer}
use Rattle.cookie_world.specs.declared.state.Peer.{Peer}
use Rattle.cookie_world.proofs.GoesLemmas.{err_nowhere, err_drawing, goes_serving}
use Rattle.cookie_world.proofs.serving.serve_with.Goals as goal

pub returns-in_err-make_room-clause-goes : goal.returns-in_err-make_room-clause-goes
returns-in_err-make_room-clause-goes g c = err_nowhere _ _ _ _ _ _ c.from_residual.ensures.0 refl c.in_err-make_room.ensures.same

pub returns-in_err-cookie-clause-goes : goal.returns-in_err-cookie-clause-goes
returns-in_err-cookie-clause-goes g c = err_nowhere _ _ _ _ _ _ c.from_residual-in_err-cookie.ensures.0 refl c.in_ok-make_room.ensures.same

pub returns-in_err-draw_cookie-clause-goes : goal.returns-in_err-draw_cookie-clause-goes
returns-in_err-draw_cookie-clause-goes g c =
    let draws = c.in_err-draw_cookie.ensures.draws in
    err_drawing _ _ _ _ _ _ c.from_residual-in_err-draw_cookie.ensures.0 draws.words draws.most draws.log c.in_ok-make_room.ensures.same

pub returns-in_err-serve-clause-goes : goal.returns-in_err-serve-clause-goes
returns-in_err-serve-clause-goes g c =
    let draws = c.in_ok-draw_cookie.ensures.draws in
    err_drawing _ _ _ _ _ _ c.from_residual-in_err-serve.ensures.0 draws.words draws.most (c.in_err-serve.ensures.log ∙ draws.log) c.in_ok-make_room.ensures.same

pub returns-clause-goes : goal.returns-clause-goes
returns-clause-goes g c =
    let room = c.make_room.new.kept in
    goes_serving c.args.server c.args.address.now _ _ _ _ (state_of room) _ c.draw_cookie.new.cookie.items c.in_ok-make_room.ensures.same (rw c.in_ok-cookie.ensures.items at c.in_ok-draw_cookie.ensures.draws) c.in_ok-serve.ensures.log
    (
    c.tell.ensures
    ∙ ap (λ (peers : List Peer). told (Serve c.args.server c.args.address.now) (record (state_of room) { peers = peers }))
    (c.put_peer.ensures ∙ ap (λ (b : List ℕ). with_peer (record { server = c.args.server; cookie = b }) room.peers.items) c.from_vec.ensures)
    )
