use Rattle.std.proofs.Common.{Err, Ok, Some, ◌≡◌, ◌∙◌, subst, true, false}
use Rattle.std.specs.FinMap as finite
use Rattle.channel_model.specs.Known.{Calls}
use Rattle.channel_model.specs.Meanings.{Accepts}
use Rattle.channel_table.specs.Calling.{known_by_owner}
use Rattle.completion_ticket.specs.States.{token_name}
use Rattle.ticket_delivery.specs.Performing.{plan_of}
use Rattle.owner_session.proofs.AcceptLemmas.{accepts_one, asks_one, asks_refused, refused_body, refuses_one}
use Rattle.owner_session.proofs.session.accept.Goals as goal

-- ---- it was accepted

pub returns-in_default-clause-accepts : goal.returns-in_default-clause-accepts
returns-in_default-clause-accepts g c =
    accepts_one c.args.spec (g.B.Done.plan c.args.body) (g.B.Done.name c.args.body) c.in_default.field-0 _ _ c.requires.voice
    (subst (λ token. Calls (Accepts plan_of c.args.spec token (Ok c.in_default.field-0)) c.args.alone.now.voice (known_by_owner c.args.alone.now) (known_by_owner c.accept.new.self)) c.of.ensures c.in_default.ensures.done) tt

pub returns-in_default-clause-places : goal.returns-in_default-clause-places
returns-in_default-clause-places g c =
    asks_one g.B.Done.name g.B.Done.told g.B.Done.refusal c.args.spec (g.B.Done.plan c.args.body) c.args.body _ _ c.in_default.field-0 c.args.places.now c.requires.voice
    (subst (λ token. Calls (Accepts plan_of c.args.spec token (Ok c.in_default.field-0)) c.args.alone.now.voice (known_by_owner c.args.alone.now) (known_by_owner c.accept.new.self)) c.of.ensures c.in_default.ensures.done)
    (subst (λ token. finite.get c.accept.new.self.names c.in_default.field-0 ≡ Some (token_name token)) c.of.ensures c.in_default.ensures.named) tt

-- ---- it was refused

pub returns-in-Some-clause-accepts : goal.returns-in-Some-clause-accepts
returns-in-Some-clause-accepts g c =
    refuses_one c.args.spec (g.B.Done.plan c.args.body) c.in-Err.field-0 _ _
    (subst (λ token. Calls (Accepts plan_of c.args.spec token (Err c.in-Err.field-0)) c.args.alone.now.voice (known_by_owner c.args.alone.now) (known_by_owner c.accept.new.self)) c.of.ensures c.in-Err.ensures.done) _

pub returns-in-Some-clause-places : goal.returns-in-Some-clause-places
returns-in-Some-clause-places g c =
    asks_refused g.B.Done.name g.B.Done.told g.B.Done.refusal c.args.spec (g.B.Done.plan c.args.body) c.args.body _ _ c.in-Err.field-0 c.in-Some.body c.args.places.now c.give_back.new.self
    (subst (λ token. Calls (Accepts plan_of c.args.spec token (Err c.in-Err.field-0)) c.args.alone.now.voice (known_by_owner c.args.alone.now) (known_by_owner c.accept.new.self)) c.of.ensures c.in-Err.ensures.done)
    c.in-Some.ensures.body c.give_back.ensures (record {})

-- what was refused has a body
pub returns-in_default-refuse : goal.returns-in_default-refuse
returns-in_default-refuse g c =
    let clash : false ≡ true =
    c.in_default-refuse.ensures.given
    ∙ refused_body g.B.Done.name g.B.Done.told g.B.Done.refusal c.args.spec (g.B.Done.plan c.args.body) c.args.body c.args.alone.now c.accept.new.self c.in-Err.field-0
    (subst (λ token. Calls (Accepts plan_of c.args.spec token (Err c.in-Err.field-0)) c.args.alone.now.voice (known_by_owner c.args.alone.now) (known_by_owner c.accept.new.self)) c.of.ensures c.in-Err.ensures.done) in
    absurd (cc clash)
