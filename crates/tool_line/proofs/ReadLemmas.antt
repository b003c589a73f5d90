-- Reads one after another, and reads at a run's end.
use Rattle.std.proofs.Common.{refl, sym, ap, inr, append_assoc}
use Rattle.std.proofs.lemmas.List.{append-nil}
use Rattle.std.specs.Prelude.{List, None, Option, Some, [], ◌++◌}
use Rattle.net_world.specs.declared.read_call.ReadCall.{ReadCall}
use Rattle.tool_line.specs.Read.{HasRead, HasReadAt}

-- no read leaves the reads
pub read_nothing : (reads : Option (List ReadCall)) → HasRead [] reads reads
read_nothing None = refl
read_nothing (Some earlier) = ap Some (sym (append-nil earlier))

-- reads, and then others
pub read_then : (first second : List ReadCall) (before between after : Option (List ReadCall)) →
    HasRead first before between → HasRead second between after → HasRead (first ++ second) before after
read_then first second None between after one two = rw (two, one) refl
read_then first second (Some earlier) between after one two = rw (two, one) (ap Some (append_assoc earlier first second))

-- memory was wanting before the first read
pub read_none_at : (calls : List ReadCall) (reads : Option (List ReadCall)) → HasReadAt 5 calls reads reads
read_none_at calls reads = inr (refl, ([], (calls, refl), read_nothing reads))
