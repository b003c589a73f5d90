-- Types and classes as words (RFC 1035, sections 3.2.2 to 3.2.5; RFC 3597, section 5).
use Rattle.std.specs.Prelude.{ℕ, ◌+◌, ◌-◌, ◌*◌, Bool, false, ◌&&◌, nat_le, ◌==◌, if◌then◌else◌, List, [], ◌∷◌, ◌++◌, length, take, drop, map, find, Option, Some, None, codes, decimal}
use Rattle.std.specs.Char.{is_ascii_digit, to_ascii_lowercase}
use Rattle.std.specs.Str.{bytes_eq}
use Rattle.dns_message.specs.Numbers.{kind_a, kind_ns, kind_cname, kind_soa, kind_ptr, kind_hinfo, kind_mx, kind_txt, kind_aaaa, kind_srv, kind_opt, kind_any}
use Rattle.dns_message.specs.Numbers.{class_in, class_ch, class_any}

-- the name of a type
abbrev pub kind_name : ℕ → Option (List ℕ)
kind_name kind =
    if kind == kind_a then Some (codes "A")
    else (if kind == kind_ns then Some (codes "NS")
    else (if kind == kind_cname then Some (codes "CNAME")
    else (if kind == kind_soa then Some (codes "SOA")
    else (if kind == kind_ptr then Some (codes "PTR")
    else (if kind == kind_hinfo then Some (codes "HINFO")
    else (if kind == kind_mx then Some (codes "MX")
    else (if kind == kind_txt then Some (codes "TXT")
    else (if kind == kind_aaaa then Some (codes "AAAA")
    else (if kind == kind_srv then Some (codes "SRV")
    else (if kind == kind_opt then Some (codes "OPT")
    else (if kind == kind_any then Some (codes "ANY")
    else None)))))))))))

-- the name of a class
abbrev pub class_name : ℕ → Option (List ℕ)
class_name class =
    if class == class_in then Some (codes "IN")
    else (if class == class_ch then Some (codes "CH")
    else (if class == class_any then Some (codes "ANY")
    else None))

-- the types whose name is also a word: all but OPT
abbrev pub kind_words : List ℕ
kind_words =
    kind_a ∷ kind_ns ∷ kind_cname ∷ kind_soa ∷ kind_ptr ∷ kind_hinfo ∷ kind_mx ∷ kind_txt ∷ kind_aaaa ∷ kind_srv
    ∷ kind_any ∷ []

-- the classes whose name is also a word: all
abbrev pub class_words : List ℕ
class_words = class_in ∷ class_ch ∷ class_any ∷ []

-- the name, or without one this front and the number in decimal digits
abbrev pub text_or : List ℕ → ℕ → Option (List ℕ) → List ℕ
text_or front number None = front ++ decimal number
text_or front number (Some name) = name

-- a type as a word
abbrev pub kind_text : ℕ → List ℕ
kind_text kind = text_or (codes "TYPE") kind (kind_name kind)

-- a class as a word
abbrev pub class_text : ℕ → List ℕ
class_text class = text_or (codes "CLASS") class (class_name class)

-- the two are the same in letters of either case
abbrev pub same_letters : List ℕ → List ℕ → Bool
same_letters a b = bytes_eq (map to_ascii_lowercase a) (map to_ascii_lowercase b)

-- the word is this name
abbrev pub is_named : List ℕ → Option (List ℕ) → Bool
is_named word None = false
is_named word (Some name) = same_letters word name

-- the number so far, and the digits that are read on, up to 65535
abbrev pub read_on : ℕ → List ℕ → Option ℕ
read_on number [] = Some number
read_on number (c ∷ digits) =
    if is_ascii_digit c && nat_le (number * 10 + (c - 48)) 65535 then read_on (number * 10 + (c - 48)) digits else None

-- the decimal number that the digits are, up to 65535; there is a digit, and a zero in front stands alone
abbrev pub number_in : List ℕ → Option ℕ
number_in [] = None
number_in (c ∷ []) = read_on 0 (c ∷ [])
number_in (c ∷ d ∷ digits) = if c == 48 then None else read_on 0 (c ∷ d ∷ digits)

-- the number that the word has behind this front
abbrev pub numbered : List ℕ → List ℕ → Option ℕ
numbered front word = if same_letters (take (length front) word) front then number_in (drop (length front) word) else None

-- the number that was found by its name, or the one that the word has behind its front
abbrev pub or_numbered : List ℕ → List ℕ → Option ℕ → Option ℕ
or_numbered front word None = numbered front word
or_numbered front word (Some number) = Some number

-- the type that a word names
abbrev pub kind_word : List ℕ → Option ℕ
kind_word word = or_numbered (codes "TYPE") word (find (λ kind. is_named word (kind_name kind)) kind_words)

-- the class that a word names
abbrev pub class_word : List ℕ → Option ℕ
class_word word = or_numbered (codes "CLASS") word (find (λ class. is_named word (class_name class)) class_words)
