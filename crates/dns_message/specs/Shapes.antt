-- The shapes of rdata, by kind and class (RFC 1035, sections 3.3 and 3.4; RFC 2782; RFC 3596).
use Rattle.std.specs.Prelude.{ℕ, zero, suc, ◌+◌, ◌&&◌, ◌||◌, nat_lt, ◌==◌, if◌then◌else◌, Bool, false, List, [], ◌∷◌, length, drop, Option, Some, None, option_map}
use Rattle.dns_message.specs.Numbers.{kind_a, kind_ns, kind_cname, kind_soa, kind_ptr, kind_hinfo, kind_mx, kind_txt, kind_aaaa, kind_srv, class_in}
use Rattle.dns_message.specs.declared.shape.Shape.{Shape}
use Rattle.dns_message.specs.declared.shape.Shape.TheVariants as shapes

-- so many bytes, names, and bytes
abbrev pub names_shape : ℕ → ℕ → ℕ → Shape
names_shape front names back = shapes.Names (record { front = front; names = names; back = back })

-- A and AAAA are addresses of the Internet's class alone, and so is SRV's name; NS, CNAME and PTR are a name, SOA two and five numbers,
-- MX a number and a name, HINFO two strings and TXT any; all else is any bytes
abbrev pub shape_by : ℕ → ℕ → Shape
shape_by kind class =
    if kind == kind_a && class == class_in then shapes.Bytes 4
    else (if kind == kind_aaaa && class == class_in then shapes.Bytes 16
    else (if kind == kind_srv && class == class_in then names_shape 6 1 0
    else (if kind == kind_ns || kind == kind_cname || kind == kind_ptr then names_shape 0 1 0
    else (if kind == kind_soa then names_shape 0 2 20
    else (if kind == kind_hinfo then shapes.TwoStrings
    else (if kind == kind_mx then names_shape 2 1 0
    else (if kind == kind_txt then shapes.Strings
    else shapes.Any)))))))

-- how many strings the bytes are, if there are at most so many bytes: each is a length byte and so many bytes
abbrev pub strings_within : ℕ → List ℕ → Option ℕ
strings_within n [] = Some 0
strings_within zero (len ∷ bytes) = None
strings_within (suc n) (len ∷ bytes) = if nat_lt (length bytes) len then None else option_map (λ count. count + 1) (strings_within n (drop len bytes))

-- how many strings the bytes are
unfoldable pub strings_of : List ℕ → Option ℕ
strings_of bytes = strings_within (length bytes) bytes

-- the count is two
abbrev pub is_two : Option ℕ → Bool
is_two None = false
is_two (Some count) = count == 2
