use Rattle.std.proofs.Common.{◌≡◌, length, arith, rules}
use Rattle.std.proofs.lemmas.List.{map-append}
use Rattle.net_addr.proofs.ReverseLemmas.{labels_more}
use Rattle.net_addr.proofs.reverse.single_labels.Goals as goal

pub loop-k-preserved : goal.loop-k-preserved
loop-k-preserved c =
    let whole : length c.args.digits.now ≡ 32 = search rules in
    rw (c.in_ok-push.ensures.items, map-append, c.loop-k.invariant)
    (labels_more c.args.digits.now c.loop-k.k (omega arith))
