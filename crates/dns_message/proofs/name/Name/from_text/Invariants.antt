use Rattle.std.proofs.Common.{◌≡◌, [], ◌≤◌, ◌-◌, drop, length}
use Rattle.dns_message.specs.NameFaults.{spots_of, name_on, name_read}
use Rattle.dns_message.specs.NameText.{units_of, name_text}
use Rattle.dns_message.proofs.PieceLemmas.{continued}
use Rattle.dns_message.proofs.name.Name.from_text.Given as goal

-- the labels so far and the units of what is left make the text's name
abbrev pub invariant-loop-name : goal.invariant-loop-name
invariant-loop-name l = record {
  within : l.start ≤ length l.text;
  placed : name_read l.text ≡ name_on (length l.text) l.name l.start [] (spots_of l.start (drop l.start l.text));
  read : name_text l.text ≡ continued l.name (units_of (drop l.start l.text));
}

abbrev pub decreases-loop-name : goal.decreases-loop-name
decreases-loop-name l = length l.text - l.start
