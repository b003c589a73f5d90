-- A zone as a list of records, and the records of a name in it (RFC 1034, section 3.6).
use Rattle.std.specs.Prelude.{ℕ, List, filter, Bool}
use Rattle.dns_message.specs.Name.{same_name}
use Rattle.dns_message.specs.declared.message.Record.{Record}

-- the record is of the name, ignoring ASCII case
abbrev pub is_of : List (List ℕ) → Record → Bool
is_of name rr = same_name name rr.name

-- the records of a name, in order
abbrev pub records_of : List (List ℕ) → List Record → List Record
records_of name zone = filter (is_of name) zone
