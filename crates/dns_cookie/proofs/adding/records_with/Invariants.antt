use Rattle.std.proofs.Common.{◌≡◌, ◌++◌, map}
use Rattle.std.specs.Vec.Iter.{into_iter_items}
use Rattle.dns_cookie.specs.Cookie.{record_with}
use Rattle.dns_cookie.proofs.adding.records_with.Given as goal

-- the records so far, each with the option where it is an OPT record
abbrev pub invariant-loop-item : goal.invariant-loop-item
invariant-loop-item l =
    goal.iterator-loop-item.can_next l.item-iterator
    × goal.iterator-loop-item.is_finite l.item-iterator
    × (l.yielded ++ into_iter_items l.item-iterator ≡ into_iter_items l.initial.item-iterator)
    × (l.all ≡ map (record_with l.option) l.yielded)
