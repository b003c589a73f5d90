use Rattle.std.proofs.Common.{◌≡◌, take, filter}
use Rattle.std.specs.Option.{option_copied, option_to_list}
use Rattle.edns_opt.specs.Opt.{is_opt}
use Rattle.edns_opt.proofs.reading.only_opt.Given as goal

-- the OPT records so far are the one that was found, if any
abbrev pub invariant-loop-item : goal.invariant-loop-item
invariant-loop-item l = filter is_opt (take l.item-index l.records) ≡ option_to_list (option_copied l.found)
