use Rattle.std.proofs.Common.{refl, ◌∙◌, sym}
use Rattle.std.proofs.lemmas.List.{length-map}
use Rattle.test_nameserver.proofs.HearingLemmas.{any_keys}
use Rattle.test_nameserver.proofs.hearing.is_lost.Goals as goal

pub returns-then-not-contains : goal.returns-then-not-contains
returns-then-not-contains c =
    let known = sym c.contains.ensures ∙ c.if-not-contains.true in
    rw (sym (any_keys c.args.key.now c.args.asked.now.keys), known, length-map, c.len.ensures.len) refl

pub returns-else-not-contains : goal.returns-else-not-contains
returns-else-not-contains c =
    let known = sym c.contains.ensures ∙ c.if-not-contains.false in
    rw (sym (any_keys c.args.key.now c.args.asked.now.keys), known, c.if-not-contains.false) refl
