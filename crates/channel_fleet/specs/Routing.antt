-- Which channel of a fleet a request goes to: a rule of our own, so that the same name goes to the same channel.
use Rattle.std.specs.Char.{to_ascii_lowercase}
use Rattle.std.specs.Prelude.{List, [], sum_by, ℕ, ◌%◌}
use Rattle.chan_types.specs.declared.spec.Spec.{Spec}
use Rattle.chan_types.specs.declared.spec.Spec.TheVariants.{Address, Query, Reverse, Search}

-- the text that a request asks with; the names of an address are asked with none
abbrev pub text_of : Spec → List ℕ
text_of (Query name kind class) = name
text_of (Search name kind class) = name
text_of (Address host family nosort) = host
text_of (Reverse address) = []

-- the sum of that text's bytes, letters in lower case, modulo the number of channels
abbrev pub route_of : Spec → ℕ → ℕ
route_of spec channels = sum_by to_ascii_lowercase (text_of spec) % channels
