use Rattle.std.proofs.Common.{◌∙◌, ap, arith, refl, subst, sym}
use Rattle.shared_session.proofs.SettlingLemmas.{still_len}
use Rattle.shared_channel.specs.Passes.{desk_of}
use Rattle.shared_session.specs.Serving.{HasGone}
use Rattle.shared_session.specs.Turnings.{turning_at}
use Rattle.shared_session.proofs.TurnsLemmas.{stands_first}
use Rattle.shared_session.proofs.turns.run_turns.Goals as goal

pub all_of-requires : goal.all_of-requires
all_of-requires g c =
    omega (arith, still_len c.args.team.workers.items c.serve_if-end.result.1.workers.items c.serve_if-end.ensures.still.1, c.serve_if-end.ensures.room, c.requires.room, c.args.team.workers.ok.0, c.serve_if-end.result.1.workers.ok.0)

pub returns-clause-turns : goal.returns-clause-turns
returns-clause-turns g c =
    let made = c.of.result in
    let parts = c.of.ensures.parts in
    let start = c.of.ensures.start in
    let same = stands_first c.args.first (desk_of made.desk) made.runner c.args.runner made.left c.args.given.turns made.behind_turn made.later c.args.given.later made.coming (g.W.World.log made.world) (g.W.World.log c.args.world) (g.W.World.wait_faults made.world) (g.W.World.wait_faults c.args.world)
    (ap desk_of (parts.0 ∙ c.place-place.ensures)) parts.1 start.0 start.1 parts.3 start.2 (ap (λ w. g.W.World.log w) parts.2) (ap (λ w. g.W.World.wait_faults w) parts.2) in
    record {
      after = turning_at c.serve_if-end.result.2;
      last = c.leave.result;
      owner_new = c.serve_if-end.result.1.owner;
      workers_new = c.serve_if-end.result.1.workers.items;
      passes_are = c.all_of.ensures;
      stands = ap desk_of (sym c.leave.ensures);
      log = refl;
      faults = refl;
      gone = subst (λ t. HasGone c.args.given.orders c.args.team.owner c.args.team.workers.items t c.serve_if-end.result.1.owner c.serve_if-end.result.1.workers.items (turning_at c.serve_if-end.result.2)) same c.serve_if-end.ensures.gone;
      still = c.serve_if-end.ensures.still;
      settled = c.serve_if-end.ensures.settled;
      ends = c.serve_if-end.ensures.ends;
      between = c.serve_if-end.ensures.between;
      refused = c.serve_if-end.ensures.refused;
    }

pub returns-clause-origin : goal.returns-clause-origin
returns-clause-origin g c = c.serve_if-end.ensures.origin ∙ ap (λ w. g.W.World.origin w) c.of.ensures.parts.2
