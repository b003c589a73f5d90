use Rattle.std.proofs.Common.{arith, subst}
use Rattle.std.proofs.lemmas.List.{nil_from_length}
use Rattle.shared_session.proofs.AskingLemmas.{asking_all, asking_more, asking_none, asking_refused}
use Rattle.shared_session.specs.Asking.{AsksOne}
use Rattle.shared_session.proofs.asking.ask_all.Goals as goal

pub loop-spec-init : goal.loop-spec-init
loop-spec-init g c = asking_none c.args.requests.items c.from-requests.result.items c.args.pass c.place-place.result c.from-requests.ensures.0 c.place-place.ensures

pub loop-spec-preserved : goal.loop-spec-preserved
loop-spec-preserved g c =
    asking_more c.args.requests.items c.loop-spec.requests.items c.pop_front.new.self.items (c.in-Some.spec, c.in-Some.token) c.args.pass c.loop-spec.place c.ask.new.place c.loop-spec.invariant c.in-Some.ensures.items
    (subst (λ b. AsksOne b (c.in-Some.spec, c.in-Some.token) c.loop-spec.place c.ask.new.place) c.if-not-ask.false c.ask.ensures)

pub returns-then-not-ask : goal.returns-then-not-ask
returns-then-not-ask g c =
    asking_refused c.args.requests.items c.loop-spec.requests.items c.pop_front.new.self.items (c.in-Some.spec, c.in-Some.token) c.args.pass c.loop-spec.place c.ask.new.place c.leave.result c.loop-spec.invariant c.in-Some.ensures.items
    (subst (λ b. AsksOne b (c.in-Some.spec, c.in-Some.token) c.loop-spec.place c.ask.new.place) c.if-not-ask.true c.ask.ensures) c.leave.ensures

pub returns : goal.returns
returns g c =
    asking_all c.args.requests.items c.loop-spec.requests.items c.args.pass c.loop-spec.place c.leave-2.result c.loop-spec.invariant
    (nil_from_length c.loop-spec.requests.items (omega (arith, c.in_default.ensures.cases.0, c.loop-spec.requests.ok.0))) c.leave-2.ensures
