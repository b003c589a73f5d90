-- The parts of a query's bytes (RFC 1035, section 4.1; RFC 6891, section 6.1.2).
use Rattle.byteorder.specs.Endian.{big_bytes}
use Rattle.std.specs.Prelude.{Bool, List, [], if◌then◌else◌, ◌++◌, ◌∷◌, ℕ}
use Rattle.dns_message.specs.Wire.{wire_bytes}

-- the header: the identifier, RD or not, one question, and one additional record or none
abbrev pub header_of_query : ℕ → Bool → Bool → List ℕ
header_of_query id norecurse edns = big_bytes 2 id ++ (if norecurse then 0 else 1) ∷ 0 ∷ 0 ∷ 1 ∷ 0 ∷ 0 ∷ 0 ∷ 0 ∷ 0 ∷ (if edns then 1 else 0) ∷ []

-- the question: the name's labels, the root's byte, kind and class
abbrev pub question_of_query : List (List ℕ) → ℕ → ℕ → List ℕ
question_of_query name kind class = wire_bytes name ++ 0 ∷ big_bytes 2 kind ++ big_bytes 2 class

-- an OPT record of version 0 without options, which offers replies of this size
abbrev pub opt_of_query : ℕ → List ℕ
opt_of_query size = 0 ∷ 0 ∷ 41 ∷ big_bytes 2 size ++ 0 ∷ 0 ∷ 0 ∷ 0 ∷ 0 ∷ 0 ∷ []
