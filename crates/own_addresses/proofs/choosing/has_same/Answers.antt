use Rattle.std.proofs.Common.{rules, tests}
use Rattle.std.proofs.lemmas.Iterator.{YieldsList-from_slice}
use Rattle.std.proofs.lemmas.Iterator.Search.{any_from_yields_List}
use Rattle.own_addresses.specs.Choice.{is_same}
use Rattle.own_addresses.proofs.choosing.has_same.Goals as goal

pub returns : goal.returns
returns c = any_from_yields_List (is_same c.args.address) _ _ c.any.result c.any.ensures.ran (YieldsList-from_slice c.args.own.now cc) (λ x b q k. search (rules, tests))
