use Rattle.std.proofs.Common.{rules, tests, not, eqb, length}
use Rattle.std.proofs.lemmas.Iterator.{items_from_drains}
use Rattle.std.proofs.lemmas.Iterator.Consumers.{YieldsList-at, YieldsList-from_filter}
use Rattle.std.proofs.lemmas.Iterator.Splits.{YieldsList-from_slice_split}
use Rattle.test_nameserver.specs.Words.{is_blank}
use Rattle.test_nameserver.proofs.words.words_in.Goals as goal

pub returns : goal.returns
returns c =
    rw c.in_ok-found.ensures.ran.2.0
    (items_from_drains c.in_ok-found.ensures.ran.0 c.in_ok-found.ensures.ran.1
    (YieldsList-from_filter _ (λ part. not (eqb (length part) 0))
    (YieldsList-at c.filter.ensures.source
    (YieldsList-from_slice_split _ is_blank c.args.line.now c.split.ensures.rest c.split.ensures.done c.split.ensures.closure (λ x r q k. search (rules, tests))))
    c.filter.ensures.closure (λ x r q k. search (rules, tests))))
