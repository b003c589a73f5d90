use Rattle.std.proofs.Common.{◌≡◌, ◌≤◌, drop}
use Rattle.journal_text.specs.Atoms.{digits_on}
use Rattle.journal_text.proofs.atom_reading.digits_up_to.Given as goal

-- the number so far, and the digits that are left, read as all do
abbrev pub invariant-loop-digit : goal.invariant-loop-digit
invariant-loop-digit l = record {
  value : digits_on l.most l.number (drop l.digit-index l.word) ≡ digits_on l.most 0 l.word;
  few : l.number ≤ l.most;
}
