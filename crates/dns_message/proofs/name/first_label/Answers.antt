use Rattle.std.proofs.Common.{get_or, drop, sym}
use Rattle.std.proofs.lemmas.List.{length-take-le}
use Rattle.dns_message.proofs.WireLemmas.{first_is, first_within, first_behind, rest_all}
use Rattle.dns_message.proofs.name.first_label.Goals as goal

pub slice_bounds-result-end : goal.slice_bounds-result-end
slice_bounds-result-end c = rw (rest_all 1 c.args.wire.now) (sym (length-take-le _ _ (first_within c.args.wire.now c.requires.some c.requires.spelled)))

pub returns-clause-labels : goal.returns-clause-labels
returns-clause-labels c = rw (rest_all 1 c.args.wire.now, rest_all (get_or c.args.wire.now 0 0) (drop 1 c.args.wire.now)) (first_is c.args.wire.now c.requires.some)

pub returns-clause-spelled : goal.returns-clause-spelled
returns-clause-spelled c = rw (rest_all 1 c.args.wire.now, rest_all (get_or c.args.wire.now 0 0) (drop 1 c.args.wire.now)) (first_behind c.args.wire.now c.requires.some c.requires.spelled)
