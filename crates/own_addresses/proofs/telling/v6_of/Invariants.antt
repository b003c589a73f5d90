use Rattle.std.proofs.Common.{◌≡◌, [], fold, take}
use Rattle.own_addresses.specs.Telling.{with_digit}
use Rattle.own_addresses.proofs.telling.v6_of.Given as goal

-- the text has the digits so far
abbrev pub invariant-loop-digit : goal.invariant-loop-digit
invariant-loop-digit l = l.text.items ≡ fold with_digit [] (take l.digit-index l.digits)
