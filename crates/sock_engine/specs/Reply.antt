-- What may answer a query over UDP, as far as its header tells (RFC 1035, section 4.1.1).
use Rattle.std.specs.Prelude.{ℕ, ◌+◌, ◌*◌, List, [], ◌∷◌, length, nat_lt, ◌&&◌, if◌then◌else◌, Option, None, Some, is_some, IsTrue}

-- the identifier of a reply: nothing shorter than a header is one, and nothing without the bit QR
abbrev pub id_of_reply : List ℕ → Option ℕ
id_of_reply [] = None
id_of_reply (first ∷ []) = None
id_of_reply (first ∷ second ∷ []) = None
id_of_reply (first ∷ second ∷ flags ∷ rest) = if nat_lt 8 (length rest) && nat_lt 127 flags then Some (first * 256 + second) else None

-- it may answer something
abbrev pub IsReply : List ℕ → Type 0
IsReply bytes = IsTrue (is_some (id_of_reply bytes))
