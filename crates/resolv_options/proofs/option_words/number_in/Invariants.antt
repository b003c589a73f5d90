use Rattle.std.proofs.Common.{◌≡◌, ◌-◌, min, true, map, take}
use Rattle.std.specs.List.{list_all}
use Rattle.std.specs.Char.{is_ascii_digit}
use Rattle.net_addr.specs.Reading.{number_of}
use Rattle.resolv_options.proofs.option_words.number_in.Given as goal

-- the bytes so far are digits, and the number is theirs, cut
abbrev pub invariant-loop-digit : goal.invariant-loop-digit
invariant-loop-digit l = record {
  digits : list_all is_ascii_digit (take l.digit-index l.digits) ≡ true;
  value : l.number ≡ min l.most (number_of 10 (map (λ digit. digit - 48) (take l.digit-index l.digits)));
}
