-- When a question is the one that was asked (RFC 1035, section 4.1.2; ignoring ASCII case by RFC 4343, section 3).
use Rattle.std.specs.Prelude.{◌≡◌, ℕ, ◌==◌, ◌&&◌, Bool, true, false, if◌then◌else◌, List, [], ◌∷◌}
use Rattle.std.specs.Char.{to_ascii_lowercase}
use Rattle.std.specs.Cmp.Lexicographic.{pointwise}
use Rattle.std.specs.Str.{bytes_eq}
use Rattle.dns_message.specs.Name.{SameLabel, same_name}
use Rattle.dns_message.specs.declared.message.Question.{Question}

-- the names agree: byte for byte, or ignoring ASCII case
abbrev pub agrees : Bool → List (List ℕ) → List (List ℕ) → Bool
agrees exact labels others = if exact then pointwise bytes_eq labels others else same_name labels others

-- a question is the one that was asked
abbrev pub repeats : Bool → Question → Question → Bool
repeats exact question asked = agrees exact question.name asked.name && (question.kind == asked.kind) && (question.class == asked.class)

-- the list has the question that was asked alone
abbrev pub asks_only : Bool → Question → List Question → Bool
asks_only exact asked [] = false
asks_only exact asked (question ∷ []) = repeats exact question asked
asks_only exact asked (question ∷ another ∷ rest) = false

-- the bytes are the same: byte for byte, or ignoring ASCII case
abbrev pub SameBytes : Bool → List ℕ → List ℕ → Type 0
SameBytes true bytes others = bytes ≡ others
SameBytes false bytes others = SameLabel bytes others

-- two bytes are the same
abbrev pub same_byte : Bool → ℕ → ℕ → Bool
same_byte exact a b = if exact then a == b else to_ascii_lowercase a == to_ascii_lowercase b

-- the bytes begin with the part
abbrev pub is_front : Bool → List ℕ → List ℕ → Bool
is_front exact [] bytes = true
is_front exact (a ∷ part) [] = false
is_front exact (a ∷ part) (b ∷ bytes) = same_byte exact a b && is_front exact part bytes
