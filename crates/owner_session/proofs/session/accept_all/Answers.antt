use Rattle.std.proofs.Common.{None, Ok, Some, ◌∷◌, ◌≡◌, ◌∙◌, All, ap, map, refl, subst, sym}
use Rattle.std.specs.Prelude.{is_err}
use Rattle.owner_session.specs.Returning.{TakesNext}
use Rattle.owner_session.proofs.AcceptLemmas.{each_behind, none_left, none_scripted, some_all, some_begun, some_cut, some_more, some_wanting}
use Rattle.owner_session.proofs.PlaceLemmas.{HaveAskedSome, asked_all, asked_cut, asked_more, asked_none}
use Rattle.owner_session.proofs.session.accept_all.Goals as goal

pub loop-spec-init : goal.loop-spec-init
loop-spec-init g c = (
  c.requires.voice,
  c.requires.fresh,
  some_begun _ _ _ _ _ c.from-specs.ensures.0 refl,
  asked_none g.B.Done.name g.B.Done.told _ _ _ c.requires.empty c.requires.unasked refl,
)

pub loop-spec-preserved : goal.loop-spec-preserved
loop-spec-preserved g c =
    let next : TakesNext (Ok (Some c.in-Some-2.body)) c.loop-spec.places c.next.new.self = subst (λ found. TakesNext (Ok found) c.loop-spec.places c.next.new.self) c.in-Some-2.is c.in_ok-body.ensures in
    let same : c.accept.new.places ≡ c.next.new.self = c.in_ok-accept.ensures.places.2 in (
      c.accept.ensures.accepts.voice ∙ c.loop-spec.invariant.0,
      subst (λ places. All (λ body. g.B.Done.told body ≡ None) places.rest) (sym same)
          (each_behind (λ body. g.B.Done.told body ≡ None) c.in-Some-2.body c.loop-spec.places.rest c.next.new.self.rest next.0 c.loop-spec.invariant.1),
      some_more _ _ _ _ _ _ c.in-Some.spec (g.B.Done.plan c.in-Some-2.body) _ _ _ c.accept.result c.in-Some.ensures.items
          (ap (map g.B.Done.plan) next.0 ∙ ap (λ places. g.B.Done.plan c.in-Some-2.body ∷ map g.B.Done.plan places.rest) (sym same)) (ap is_err c.in_ok-accept.was) c.loop-spec.invariant.2 c.accept.ensures.accepts,
      asked_more g.B.Done.name g.B.Done.told g.B.Done.refusal _ _ _ _ _ _ c.in-Some.spec (g.B.Done.plan c.in-Some-2.body) c.in-Some-2.body c.accept.result (ap is_err c.in_ok-accept.was) c.loop-spec.invariant.3 next
          c.accept.ensures.places,
    )

-- one was refused
pub returns-in_err-accept : goal.returns-in_err-accept
returns-in_err-accept g c =
    let next : TakesNext (Ok (Some c.in-Some-2.body)) c.loop-spec.places c.next.new.self = subst (λ found. TakesNext (Ok found) c.loop-spec.places c.next.new.self) c.in-Some-2.is c.in_ok-body.ensures in
    record {
      accepts = some_cut _ _ _ _ _ _ c.in-Some.spec (g.B.Done.plan c.in-Some-2.body) _ _ _ c.accept.result c.from_residual-in_err-accept.result c.in-Some.ensures.items (ap (map g.B.Done.plan) next.0)
          (ap is_err c.in_err-accept.was) c.from_residual-in_err-accept.ensures.0 c.loop-spec.invariant.2 c.accept.ensures.accepts;
      places = asked_cut g.B.Done.name g.B.Done.told g.B.Done.refusal _ _ _ _ _ _ c.in-Some.spec (g.B.Done.plan c.in-Some-2.body) c.in-Some-2.body c.accept.result (ap is_err c.in_err-accept.was) c.loop-spec.invariant.3 next
          c.accept.ensures.places;
    }

-- memory was wanting for a place
pub returns-in_err-body : goal.returns-in_err-body
returns-in_err-body g c = record {
  accepts = some_wanting _ _ _ _ _ _ c.from_residual.result c.from_residual.ensures.0 c.loop-spec.invariant.2;
  places = asked_all g.B.Done.name g.B.Done.told g.B.Done.refusal _ _ _
      (subst (HaveAskedSome g.B.Done.name g.B.Done.told c.args.places.now.rest c.loop-spec.alone) (sym c.in_err-body.ensures) c.loop-spec.invariant.3);
}

-- no body is left
pub returns-in_default-2 : goal.returns-in_default-2
returns-in_default-2 g c =
    let next : TakesNext (Ok None) c.loop-spec.places c.next.new.self = subst (λ found. TakesNext (Ok found) c.loop-spec.places c.next.new.self) c.in_default-2.is c.in_ok-body.ensures in
    record {
      accepts = some_all c.args.specs.items c.loop-spec.specs.items _ _ _ _ _ (none_scripted _ _ (ap (map g.B.Done.plan) next.0)) c.loop-spec.invariant.2;
      places = asked_all g.B.Done.name g.B.Done.told g.B.Done.refusal _ _ _ (subst (HaveAskedSome g.B.Done.name g.B.Done.told c.args.places.now.rest c.loop-spec.alone) (sym next.1) c.loop-spec.invariant.3);
    }

-- no request is left
pub returns : goal.returns
returns g c = record {
  accepts = some_all c.args.specs.items c.loop-spec.specs.items _ _ _ _ _ (none_left _ _ (c.in_default.ensures.items ∙ c.in_default.ensures.rest)) c.loop-spec.invariant.2;
  places = asked_all g.B.Done.name g.B.Done.told g.B.Done.refusal _ _ _ c.loop-spec.invariant.3;
}
