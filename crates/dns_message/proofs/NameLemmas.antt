-- A name's length on the wire, and names made by one label more.
use Rattle.std.proofs.Common.{◌≡◌, ℕ, ◌+◌, ◌<◌, ◌≤◌, List, [], ◌∷◌, ◌++◌, length, None, arith}
use Rattle.std.proofs.lemmas.Bool.Decides.{nat_tests}
use Rattle.std.specs.List.{AllByRecursion}
use Rattle.dns_message.specs.Name.{IsLabel, IsName, wire_length, joined_name}

-- two lists of labels share the root's byte
pub wire_append : (xs ys : List (List ℕ)) → wire_length (xs ++ ys) + 1 ≡ wire_length xs + wire_length ys
wire_append [] ys = omega arith
wire_append (x ∷ xs) ys = omega (arith, wire_append xs ys)

-- labels behind labels are labels
pub each_append : (xs ys : List (List ℕ)) → AllByRecursion IsLabel xs → AllByRecursion IsLabel ys → AllByRecursion IsLabel (xs ++ ys)
each_append [] ys p q = q
each_append (x ∷ xs) ys p q = (p.0, each_append xs ys p.1 q)

-- a name with one label more, where it has room
pub pushed : (labels : List (List ℕ)) (label : List ℕ) (wire : ℕ) → IsName labels × (wire ≡ wire_length labels) → IsLabel label → wire_length labels + length label + 1 ≤ 255
    → IsName (labels ++ label ∷ []) × (wire + length label + 1 ≡ wire_length (labels ++ label ∷ []))
pushed labels label wire name is room =
    let more : wire_length (labels ++ label ∷ []) + 1 ≡ wire_length labels + wire_length (label ∷ []) = wire_append labels (label ∷ []) in
    (record { each = each_append labels (label ∷ []) name.0.each (is, tt); short = omega (arith, more) }, omega (arith, more, name.1))

-- the root's byte is always there
pub wire_some : (labels : List (List ℕ)) → 1 ≤ wire_length labels
wire_some [] = omega arith
wire_some (x ∷ xs) = omega (arith, wire_some xs)

-- where two names are too long together there is no joined name
pub joined_none : (labels domain : List (List ℕ)) → 256 < wire_length labels + wire_length domain → joined_name labels domain ≡ None
joined_none labels domain long = let more : 255 < wire_length (labels ++ domain) = omega (arith, wire_append labels domain) in grind (arith, nat_tests)
