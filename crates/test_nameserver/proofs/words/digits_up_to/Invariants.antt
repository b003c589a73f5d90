use Rattle.std.proofs.Common.{◌≡◌, min, true, take}
use Rattle.std.specs.List.{list_all}
use Rattle.std.specs.Char.{is_ascii_digit}
use Rattle.test_nameserver.specs.Words.{number_of}
use Rattle.test_nameserver.proofs.words.digits_up_to.Given as goal

-- the bytes so far are digits, and the number is theirs, cut to one above the most
abbrev pub invariant-loop-digit : goal.invariant-loop-digit
invariant-loop-digit l = record {
  digits : list_all is_ascii_digit (take l.digit-index l.word) ≡ true;
  value : l.number ≡ min l.above (number_of (take l.digit-index l.word));
}
