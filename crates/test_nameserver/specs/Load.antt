-- The zone of a load: hosts numbered from 0, of which one in four is missing (this project's profile).
use Rattle.std.specs.Prelude.{ℕ, Bool, ◌+◌, ◌*◌, ◌%◌, ◌^◌, ◌==◌, List, [], ◌∷◌, ◌++◌, map, filter, not, codes, decimal}
use Rattle.std.specs.List.{range_with_len}
use Rattle.byteorder.specs.Endian.{big_bytes}
use Rattle.dns_message.specs.Numbers.{class_in, kind_a}
use Rattle.dns_message.specs.declared.message.Record.{Record}

-- the name of the host with this number: `h`, the number in decimal digits, and `.load.test.`
abbrev pub host_name : ℕ → List (List ℕ)
host_name number = (codes "h" ++ decimal number) ∷ codes "load" ∷ codes "test" ∷ []

-- its record: the address 10.0.0.0 plus the number, for 60 seconds
abbrev pub host_record : ℕ → Record
host_record number = record { name = host_name number; kind = kind_a; class = class_in; ttl = 60; rdata = big_bytes 4 (10 * 2 ^ 24 + number) }

-- the host is there: of four that follow each other the last is missing
abbrev pub is_there : ℕ → Bool
is_there number = not (number % 4 == 3)

-- the zone of so many hosts
abbrev pub load_zone : ℕ → List Record
load_zone count = map host_record (filter is_there (range_with_len 0 count))
