use Rattle.shared_channel.proofs.TakingLemmas.{aware_of_turns, takes_of_turns}
use Rattle.shared_channel.proofs.Telling.{still_set}
use Rattle.shared_channel.proofs.delivering.take_through.Goals as goal

pub invariant_of-account-inside : goal.invariant_of-account-inside
invariant_of-account-inside g c =
    let old = c.account.inside.seat in let now = c.take_turns.new in let took = c.take_turns.ensures in
    (still_set old now.seat took.same c.account.inside.is_set, (aware_of_turns c.args.most now.found.items old now.seat c.account.inside.is_set c.account.inside.aware took.turns, tt))

pub returns-clause-taken : goal.returns-clause-taken
returns-clause-taken g c =
    takes_of_turns c.account.inside.calls c.account.inside.lost c.args.most c.take_turns.new.found.items c.account.inside.seat c.take_turns.new.seat c.account.inside.is_set _ c.args.account.now
    c.account.view_is c.account.inside.aware c.take_turns.ensures.turns
