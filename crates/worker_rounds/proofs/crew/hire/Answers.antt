use Rattle.std.proofs.Common.{[], ◌++◌, ◌≡◌, ◌∙◌, ap, arith, eqb-true, length, refl, subst, sym, vec_len}
use Rattle.std.proofs.lemmas.List.{append-nil, nil_from_length}
use Rattle.std.specs.Option.{option_to_list}
use Rattle.shared_channel.specs.Staying.{AreAt}
use Rattle.worker_rounds.specs.Crews.{places_of}
use Rattle.worker_rounds.proofs.CrewLemmas.{front, hiring_more, hiring_none}
use Rattle.worker_rounds.proofs.crew.hire.Goals as goal

pub loop-orders-init : goal.loop-orders-init
loop-orders-init g c = (
  hiring_none (λ its. its.place) (λ its. its.orders) c.args.pool.now.pool c.args.orders c.args.passes.now.items c.args.rights.now.items c.args.crew.items c.requires.none c.requires.rights,
  c.requires.at,
  c.requires.as_many,
  omega (arith, c.requires.room, ap length c.requires.none, c.args.crew.ok.0),
  refl,
  refl,
)

pub loop-orders-preserved : goal.loop-orders-preserved
loop-orders-preserved g c =
    let at = c.loop-orders in
    let first = front at.passes.items c.remove.result c.remove.new.self.items (omega (arith, c.remove.ensures.len, at.passes.ok.0)) c.remove.ensures.value c.remove.ensures.items in
    let last = c.pop.ensures.items ∙ ap (λ o. c.pop.new.self.items ++ option_to_list o) c.unwrap-right.ensures in
    let one = ap (λ o. length (option_to_list o)) c.unwrap-right.ensures in (
      hiring_more (λ its. its.place) (λ its. its.orders) c.args.pool.now.pool c.args.orders c.args.passes.now.items at.passes.items c.remove.new.self.items c.remove.result at.rights.items c.pop.new.self.items c.unwrap-right.result at.crew.items c.push_reserved.new.self.items c.worker.result at.invariant.0
          first last c.push_reserved.ensures.items (ap (λ d. d.place) c.worker.ensures.spender ∙ c.place-place.ensures) c.worker.ensures.pass c.worker.ensures.pool (ap (λ d. d.orders) c.worker.ensures.spender),
      (subst (AreAt c.args.channel.now) first at.invariant.1).1,
      omega (arith, at.invariant.2, c.remove.ensures.len, c.pop.ensures.len, one),
      omega (arith, at.invariant.3, c.remove.ensures.len, c.push_reserved.ensures.len, c.push_reserved.ensures.capacity),
      c.remove.ensures.capacity ∙ at.invariant.4,
      c.pop.ensures.capacity ∙ at.invariant.5,
    )

pub returns-clause-places : goal.returns-clause-places
returns-clause-places g c =
    let zero : vec_len c.loop-orders.passes ≡ 0 = eqb-true _ _ (sym c.is_empty.ensures ∙ c.loop-orders-test.false) in
    let none : c.loop-orders.passes.items ≡ [] = nil_from_length c.loop-orders.passes.items (omega (arith, zero, c.loop-orders.passes.ok.0)) in
    let places = places_of (λ its. its.place) c.loop-orders.crew.items in
    sym (append-nil places) ∙ ap (λ l. places ++ l) (sym none) ∙ c.loop-orders.invariant.0.places
