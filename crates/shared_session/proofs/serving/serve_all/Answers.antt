use Rattle.std.proofs.Common.{◌∙◌, ◌∷◌, arith, refl, subst}
use Rattle.pooled_places.proofs.Theorems.{still_more, still_none}
use Rattle.shared_session.specs.Serving.{EndsIf}
use Rattle.shared_session.specs.Turnings.{turning_at}
use Rattle.shared_session.proofs.GoneLemmas.{gone_more, gone_none}
use Rattle.shared_session.proofs.RoundLemmas.{still_at}
use Rattle.shared_session.proofs.SettlingLemmas.{still_len}
use Rattle.shared_session.proofs.serving.serve_all.Goals as goal

pub loop-init : goal.loop-init
loop-init g c = (
  gone_none c.args.orders c.args.team.owner c.args.team.workers.items (turning_at c.args.pump),
  still_none (c.args.team.owner ∷ c.args.team.workers.items),
  λ was. was,
  omega arith,
  c.requires.start,
  c.requires.between,
  refl,
)

pub serve_once-team-requires-clause-some : goal.serve_once-team-requires-clause-some
serve_once-team-requires-clause-some g c κs within = (
  omega (arith, still_len c.args.team.workers.items c.loop.old.workers.items c.loop.invariant.1.1, c.requires.some.0, c.args.team.workers.ok.0, c.loop.old.workers.ok.0),
  omega (arith, still_len c.args.team.workers.items c.loop.old.workers.items c.loop.invariant.1.1, c.requires.some.1, c.args.team.workers.ok.0, c.loop.old.workers.ok.0),
)

pub serve_once-team-requires-clause-at : goal.serve_once-team-requires-clause-at
serve_once-team-requires-clause-at g c κs within =
    still_at c.args.channel.now (c.args.team.owner ∷ c.args.team.workers.items) (c.loop.old.owner ∷ c.loop.old.workers.items) c.loop.invariant.1 c.requires.at

pub serve_once-team-requires-clause-start : goal.serve_once-team-requires-clause-start
serve_once-team-requires-clause-start g c κs within = c.loop.invariant.4

pub serve_once-team-requires-clause-between : goal.serve_once-team-requires-clause-between
serve_once-team-requires-clause-between g c κs within = c.loop.invariant.5

pub returns-in-Some-end-clause-gone : goal.returns-in-Some-end-clause-gone
returns-in-Some-end-clause-gone g c =
    gone_more c.args.orders c.args.team.owner c.args.team.workers.items (turning_at c.args.pump) c.loop.old.owner c.loop.old.workers.items (turning_at c.loop.turner)
    c.serve_once-team.result.team.owner c.serve_once-team.result.team.workers.items (turning_at c.serve_once-team.result.pump) c.loop.invariant.0 c.serve_once-team.ensures.gone

pub returns-in-Some-end-clause-still : goal.returns-in-Some-end-clause-still
returns-in-Some-end-clause-still g c =
    still_more (c.args.team.owner ∷ c.args.team.workers.items) (c.loop.old.owner ∷ c.loop.old.workers.items) (c.serve_once-team.result.team.owner ∷ c.serve_once-team.result.team.workers.items) c.loop.invariant.1 c.serve_once-team.ensures.still

pub returns-in-Some-end-clause-settled : goal.returns-in-Some-end-clause-settled
returns-in-Some-end-clause-settled g c = λ was. c.serve_once-team.ensures.settled (c.loop.invariant.2 was)

pub returns-in-Some-end-clause-room : goal.returns-in-Some-end-clause-room
returns-in-Some-end-clause-room g c = omega (arith, c.loop.invariant.3, c.serve_once-team.ensures.room)

pub returns-in-Some-end-clause-origin : goal.returns-in-Some-end-clause-origin
returns-in-Some-end-clause-origin g c = c.serve_once-team.ensures.origin ∙ c.loop.invariant.6

pub loop-preserved : goal.loop-preserved
loop-preserved g c = (
  gone_more c.args.orders c.args.team.owner c.args.team.workers.items (turning_at c.args.pump) c.loop.old.owner c.loop.old.workers.items (turning_at c.loop.turner)
      c.serve_once-team.result.team.owner c.serve_once-team.result.team.workers.items (turning_at c.serve_once-team.result.pump) c.loop.invariant.0 c.serve_once-team.ensures.gone,
  still_more (c.args.team.owner ∷ c.args.team.workers.items) (c.loop.old.owner ∷ c.loop.old.workers.items) (c.serve_once-team.result.team.owner ∷ c.serve_once-team.result.team.workers.items) c.loop.invariant.1 c.serve_once-team.ensures.still,
  λ was. c.serve_once-team.ensures.settled (c.loop.invariant.2 was),
  omega (arith, c.loop.invariant.3, c.serve_once-team.ensures.room),
  subst (λ e. EndsIf e (turning_at c.serve_once-team.result.pump) (c.serve_once-team.result.team.owner ∷ c.serve_once-team.result.team.workers.items)) c.in_default.is c.serve_once-team.ensures.ends,
  c.serve_once-team.ensures.between,
  c.serve_once-team.ensures.origin ∙ c.loop.invariant.6,
)
