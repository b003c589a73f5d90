use Rattle.std.proofs.Common.{rules, ◌≡◌, ◌∙◌, refl, sym}
use Rattle.adig_tool.proofs.CookiesLemmas.{cookies_run, lent_is, loan_is}
use Rattle.adig_tool.proofs.cookies.ask_with_cookies.Goals as goal

-- the loan that the network with cookies gave back is the one that it was made with, so what it leaves is the network that was handed in

pub returns-clause-promise : goal.returns-clause-promise
returns-clause-promise g c =
    let made = c.make-cookies.ensures.inner in
    let told = c.origin_tells_how_the_log_began.ensures _ _ _ _ c.ask-end.ensures.origin in
    let name = loan_is _ _ _ _ told.0 in
    let same : c.parts-lent.result.0.world.now ≡ c.world-1.given.0 = search rules in
    rw (sym same)
    (cookies_run (λ lent. g.W.World.log lent.world.now) (λ lent. g.W.World.wait_faults lent.world.now) c.make-cookies.result c.ask-end.new.world _ c.parts-lent.result.0 c.args.asked c.args.turns c.ask-end.result c.with_outer.result _ _ _ _ _ _ _ _
    c.with_outer.ensures.end (c.with_outer.ensures.outer ∙ c.parts-lent.ensures.log) made c.make-cookies.ensures.state c.parts-lent.ensures.inner (told.1 ∙ c.make-cookies.ensures.began) c.parts-lent.ensures.agree
    c.ask-end.ensures.promise)

pub returns-clause-origin : goal.returns-clause-origin
returns-clause-origin g c =
    let made = c.make-cookies.ensures.inner in
    let told = c.origin_tells_how_the_log_began.ensures _ _ _ _ c.ask-end.ensures.origin in
    let name = loan_is _ _ _ _ told.0 in
    let lent = lent_is _ _ _ _ told.0 in
    let same : c.parts-lent.result.0.world.now ≡ c.world-1.given.0 = search rules in
    rw (sym same, c.parts-lent.ensures.inner, lent, made) refl
