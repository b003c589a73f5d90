use Rattle.std.proofs.Common.{◌≡◌, [], vec_len}
use Rattle.std.specs.List.{AllByRecursion}
use Rattle.channel_fleet.proofs.launching.watch_all.Given as goal

-- so many readers so far, which have seen nothing
abbrev pub invariant-loop : goal.invariant-loop
invariant-loop l = (l.board ≡ []) × AllByRecursion (λ seen. seen ≡ []) l.watchers.items × (vec_len l.watchers ≡ l.counter)
