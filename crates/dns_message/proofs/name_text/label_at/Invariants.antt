use Rattle.std.proofs.Common.{◌≡◌, ℕ, List, [], ◌≤◌, ◌-◌, drop, length}
use Rattle.dns_message.specs.NameFaults.{spots_of, name_on}
use Rattle.dns_message.specs.NameText.{units_of, label_before}
use Rattle.dns_message.proofs.name_text.label_at.Given as goal

-- the units from the start on are the label so far, and those of what is left
abbrev pub invariant-loop-at : goal.invariant-loop-at
invariant-loop-at l = record {
  start : l.start ≤ l.at;
  end : l.at ≤ length l.text;
  few : length l.label.items ≤ 63;
  placed : (front : List (List ℕ)) → name_on (length l.text) front l.start [] (spots_of l.start (drop l.start l.text)) ≡ name_on (length l.text) front l.start l.label.items (spots_of l.at (drop l.at l.text));
  read : units_of (drop l.start l.text) ≡ label_before l.label.items (units_of (drop l.at l.text));
}

abbrev pub decreases-loop-at : goal.decreases-loop-at
decreases-loop-at l = length l.text - l.at
