-- The labels of a reversed IPv6 address make a name.
use Rattle.std.proofs.Common.{◌≡◌, ℕ, ◌+◌, ◌*◌, ◌-◌, ◌<◌, get_or, take, drop, drop-cons, List, [], ◌∷◌, ◌++◌, length, map, codes, refl, arith}
use Rattle.std.proofs.lemmas.List.{map-append, take_more}
use Rattle.std.specs.List.{AllByRecursion}
use Rattle.dns_message.specs.Name.{IsLabel, IsName, wire_length}
use Rattle.net_addr.specs.Reverse.{digits_backwards}

abbrev ends : List (List ℕ)
ends = codes "ip6" ∷ codes "arpa" ∷ []

each_label : (digits : List ℕ) → AllByRecursion IsLabel (map (λ digit. digit ∷ []) digits ++ ends)
each_label [] = (record { some = omega arith; few = omega arith }, (record { some = omega arith; few = omega arith }, tt))
each_label (d ∷ digits) = (record { some = omega arith; few = omega arith }, each_label digits)

wire_length-digits : (digits : List ℕ) → wire_length (map (λ digit. digit ∷ []) digits ++ ends) ≡ 2 * length digits + 10
wire_length-digits [] = refl
wire_length-digits (d ∷ digits) = omega (arith, wire_length-digits digits)

pub length-digits_backwards : (a : ℕ) → length (digits_backwards a) ≡ 32
unfolding digits_backwards
length-digits_backwards a = refl

pub IsName-digits : (a : ℕ) → IsName (map (λ digit. digit ∷ []) (digits_backwards a) ++ codes "ip6" ∷ codes "arpa" ∷ [])
IsName-digits a = record {
  each = each_label (digits_backwards a);
  short = omega (arith, wire_length-digits (digits_backwards a), length-digits_backwards a);
}

-- the part of a list between an index and the next
one_at : (xs : List ℕ) (k : ℕ) → k < length xs → take (k + 1 - k) (drop k xs) ≡ get_or xs k 0 ∷ []
one_at xs k within =
    let one : k + 1 - k ≡ 1 = omega arith in
    rw (one, drop-cons xs k 0)

-- one digit more is one label more
pub labels_more : (digits : List ℕ) (k : ℕ) → k < length digits
    → map (λ digit. digit ∷ []) (take k digits) ++ take (k + 1 - k) (drop k digits) ∷ []
    ≡ map (λ digit. digit ∷ []) (take (k + 1) digits)
labels_more digits k within = rw (one_at digits k within, take_more digits k 0 within, map-append)
