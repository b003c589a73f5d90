-- The address of a text as a function, for definitions that read texts. Which function it is, `Spells` says.
use Rattle.std.specs.Prelude.{ℕ, ◌+◌, ◌*◌, ◌^◌, List, Option, fold, option_map}
use Rattle.std.specs.Option.{option_or}
use Rattle.std.specs.Net.Reader.{read_ipv4, read_ipv6, whole_value}
use Rattle.net_addr.specs.declared.addr.Addr.{Addr}
use Rattle.net_addr.specs.declared.addr.Addr.TheVariants.{V4, V6}

-- the number that has these digits in a base, the highest first
abbrev pub number_of : ℕ → List ℕ → ℕ
number_of base digits = fold (λ number digit. number * base + digit) 0 digits

-- the address that the text spells, if it spells one
unfoldable pub address_of : List ℕ → Option Addr
address_of text = option_or
    (option_map (λ octets. V4 (number_of (2 ^ 8) octets)) (whole_value (read_ipv4 text)))
    (option_map (λ groups. V6 (number_of (2 ^ 16) groups)) (whole_value (read_ipv6 text)))
