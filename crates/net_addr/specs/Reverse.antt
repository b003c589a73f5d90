-- The name under which the names of an address stand (RFC 1035, section 3.5; RFC 3596, section 2.5).
use Rattle.std.specs.Prelude.{ℕ, ◌*◌, ◌/◌, ◌%◌, ◌^◌, List, [], ◌∷◌, ◌++◌, map, reverse, codes, decimal}
use Rattle.std.specs.Char.{digit_char}
use Rattle.std.specs.List.{range_with_len}
use Rattle.net_addr.specs.declared.addr.Addr.{Addr}
use Rattle.net_addr.specs.declared.addr.Addr.TheVariants.{V4, V6}
use Rattle.net_addr.specs.Addr.{octets}

-- the 32 hexadecimal digits of an IPv6 address, in lower case, the last first
unfoldable pub digits_backwards : ℕ → List ℕ
digits_backwards a = map (λ k. digit_char (a / 2 ^ (4 * k) % 2 ^ 4)) (range_with_len 0 32)

-- Of an IPv4 address its four decimal numbers backwards, `in-addr` and `arpa`.
-- Of an IPv6 address its 32 hexadecimal digits backwards, one a label, `ip6` and `arpa`.
abbrev pub reverse_labels : Addr → List (List ℕ)
reverse_labels (V4 a) = map decimal (reverse (octets a)) ++ codes "in-addr" ∷ codes "arpa" ∷ []
reverse_labels (V6 a) = map (λ digit. digit ∷ []) (digits_backwards a) ++ codes "ip6" ∷ codes "arpa" ∷ []
