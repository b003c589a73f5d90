use Rattle.std.proofs.Common.{◌≡◌, ◌∙◌, All, None, ap, arith, length, subst, sym}
use Rattle.owner_session.proofs.Theorems.{each_behind}
use Rattle.ahost_workers.proofs.RequestLemmas.{first_fresh, no_body, no_spec, none_left, one_more, whole_left}
use Rattle.ahost_workers.proofs.requests.with_callbacks.Goals as goal

pub loop-spec-init : goal.loop-spec-init
loop-spec-init g c = (
  subst (λ bodies. All (λ body. g.B.Done.told body ≡ None) bodies) (sym c.from-bodies.ensures.0) c.requires.fresh,
  whole_left g.B.Done.plan g.B.Done.name _ _ _ _ _ c.new-requests.ensures.items (c.from-specs.ensures.0 ∙ c.into_vec.ensures) c.from-bodies.ensures.0,
)

-- no body is left
pub returns-in_default-pop_front : goal.returns-in_default-pop_front
returns-in_default-pop_front g c = no_body g.B.Done.plan g.B.Done.name _ _ _ _ (none_left _ (c.in_default-pop_front.ensures.items ∙ c.in_default-pop_front.ensures.rest)) c.loop-spec.invariant.1

-- the next body was told nothing
pub of-requires : goal.of-requires
of-requires g c = first_fresh g.B.Done.told _ _ _ c.in-Some-pop_front.ensures.items c.loop-spec.invariant.0

pub loop-spec-smaller : goal.loop-spec-smaller
loop-spec-smaller g c = omega (arith, ap length c.in-Some.ensures.items)

pub loop-spec-preserved : goal.loop-spec-preserved
loop-spec-preserved g c = (
  each_behind (λ body. g.B.Done.told body ≡ None) _ _ _ c.in-Some-pop_front.ensures.items c.loop-spec.invariant.0,
  rw (c.in_ok-push.ensures.items, c.of.ensures) (one_more g.B.Done.plan g.B.Done.name _ _ _ _ _ _ c.in-Some.spec c.in-Some-pop_front.body c.in-Some.ensures.items c.in-Some-pop_front.ensures.items c.loop-spec.invariant.1),
)

-- no request is left
pub returns : goal.returns
returns g c = no_spec g.B.Done.plan g.B.Done.name _ _ _ _ (none_left _ (c.in_default.ensures.items ∙ c.in_default.ensures.rest)) c.loop-spec.invariant.1
