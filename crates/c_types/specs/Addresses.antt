-- Addresses as bytes, the highest first, and families as numbers.
use Rattle.std.specs.Prelude.{List, None, Option, Some, [], if◌then◌else◌, length, slice_get, ℕ, ◌==◌}
use Rattle.byteorder.specs.Endian.{big_bytes, big_number}
use Rattle.net_addr.specs.declared.addr.Addr.{Addr}
use Rattle.net_addr.specs.declared.addr.Addr.TheVariants.{V4, V6}
use Rattle.net_addr.specs.declared.addr.Family.{Family}
use Rattle.net_addr.specs.declared.addr.Family.TheVariants as family

-- the bytes of an address: four, or sixteen
abbrev pub address_bytes : Addr → List ℕ
address_bytes (V4 address) = big_bytes 4 address
address_bytes (V6 address) = big_bytes 16 address

-- the address of so many bytes, if an address has as many
abbrev pub address_in : List ℕ → Option Addr
address_in bytes =
    if length bytes == 4 then Some (V4 (big_number 4 bytes)) else
    if length bytes == 16 then Some (V6 (big_number 16 bytes)) else None

-- the bytes of an address, or none
abbrev pub bytes_if : Option Addr → List ℕ
bytes_if None = []
bytes_if (Some address) = address_bytes address

-- the bytes of the address at the index, or none where there is none
abbrev pub bytes_at : ℕ → List Addr → List ℕ
bytes_at index addresses = bytes_if (slice_get addresses index)

-- the family of this number: 4 and 6 for one version of IP alone, and 0 for both
abbrev pub family_of : ℕ → Option Family
family_of number =
    if number == 0 then Some family.Any else
    if number == 4 then Some family.V4 else
    if number == 6 then Some family.V6 else None
