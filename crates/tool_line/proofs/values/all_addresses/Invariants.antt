use Rattle.std.proofs.Common.{◌≡◌, ◌++◌, length, map, drop, option_map}
use Rattle.tool_line.specs.Values.{addresses_of}
use Rattle.tool_line.proofs.values.all_addresses.Given as goal

-- the addresses so far, and then those of the texts that are left
abbrev pub invariant-loop-text : goal.invariant-loop-text
invariant-loop-text l = record {
  whole : addresses_of (map (λ text. text.now) l.texts) ≡ option_map (λ others. l.found.items ++ others) (addresses_of (map (λ text. text.now) (drop l.text-index l.texts)));
  each : length l.found.items ≡ l.text-index;
}
