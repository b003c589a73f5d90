-- What an address is: a number below 2 ^ 32 or 2 ^ 128, and the smaller numbers that its text shows, the highest first.
use Rattle.std.specs.Prelude.{ℕ, ◌/◌, ◌%◌, ◌^◌, ◌<◌, List, [], ◌∷◌}
use Rattle.net_addr.specs.declared.addr.Addr.{Addr}
use Rattle.net_addr.specs.declared.addr.Addr.TheVariants.{V4, V6}

-- the number is in its family's range
abbrev pub IsAddr : Addr → Type 0
IsAddr (V4 a) = a < 2 ^ 32
IsAddr (V6 a) = a < 2 ^ 128

-- the four bytes of an IPv4 address
abbrev pub octets : ℕ → List ℕ
octets a = a / 2 ^ 24 ∷ a / 2 ^ 16 % 2 ^ 8 ∷ a / 2 ^ 8 % 2 ^ 8 ∷ a % 2 ^ 8 ∷ []

-- the eight groups of 16 bits of an IPv6 address
abbrev pub groups : ℕ → List ℕ
groups a =
    a / 2 ^ 112 ∷ a / 2 ^ 96 % 2 ^ 16 ∷ a / 2 ^ 80 % 2 ^ 16 ∷ a / 2 ^ 64 % 2 ^ 16
    ∷ a / 2 ^ 48 % 2 ^ 16 ∷ a / 2 ^ 32 % 2 ^ 16 ∷ a / 2 ^ 16 % 2 ^ 16 ∷ a % 2 ^ 16 ∷ []
