use Rattle.std.proofs.Common.{◌≡◌, drop}
use Rattle.dns_rdata.specs.Table.{read_on}
use Rattle.dns_rdata.proofs.words.read_all.Given as goal

-- the number so far, and the digits that are left, read as all do
abbrev pub invariant-loop-digit : goal.invariant-loop-digit
invariant-loop-digit l = read_on l.number (drop l.digit-index l.digits) ≡ read_on 0 l.digits
