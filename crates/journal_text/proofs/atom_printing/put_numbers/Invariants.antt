use Rattle.std.proofs.Common.{◌≡◌, ◌++◌, take, decimal}
use Rattle.std.specs.List.{flat_map}
use Rattle.journal_text.specs.Words.{spaced}
use Rattle.journal_text.proofs.atom_printing.put_numbers.Given as goal

-- the words so far are those of the numbers so far
abbrev pub invariant-loop-number : goal.invariant-loop-number
invariant-loop-number l = l.text.items ≡ l.initial.text.items ++ flat_map (λ number. spaced (decimal number)) (take l.number-index l.numbers)
