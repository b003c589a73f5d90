use Rattle.std.proofs.Common.{◌≡◌, [], ◌∷◌, map, take}
use Rattle.net_addr.proofs.reverse.single_labels.Given as goal

abbrev pub invariant-loop-k : goal.invariant-loop-k
invariant-loop-k l = map (λ label. label.now) l.labels.items ≡ map (λ digit. digit ∷ []) (take l.k l.digits)
