-- Which messages can be written: each rdata has the shape of its kind and class, with its names expanded (RFC 1035, sections 3.3 and 4.1).
use Rattle.std.specs.Prelude.{◌≡◌, ℕ, zero, suc, ◌+◌, ◌-◌, ◌≤◌, ◌&&◌, nat_lt, nat_le, ◌==◌, if◌then◌else◌, Bool, true, false, List, [], ◌∷◌, ◌++◌, length, drop, is_some, Option, Some, None}
use Rattle.std.specs.Option.{option_and_then}
use Rattle.std.specs.List.{list_all, flat_map, AllByRecursion}
use Rattle.dns_message.specs.Name.{IsName}
use Rattle.dns_message.specs.Spelling.{name_bytes}
use Rattle.dns_message.specs.Shapes.{shape_by, strings_of, is_two}
use Rattle.dns_message.specs.declared.message.Record.{Record}
use Rattle.dns_message.specs.declared.message.Message.{Message}
use Rattle.dns_message.specs.declared.shape.NamesShape.{NamesShape}
use Rattle.dns_message.specs.declared.shape.Shape.{Shape}
use Rattle.dns_message.specs.declared.shape.Shape.TheVariants as shapes

-- a string: its length, and its bytes (RFC 1035, section 3.3)
abbrev pub string_bytes : List ℕ → List ℕ
string_bytes string = length string ∷ string

-- the rdata is so many strings
abbrev pub HoldsStrings : ℕ → List ℕ → Type 0
HoldsStrings count rdata = (strings : List (List ℕ)) × (length strings ≡ count) × (rdata ≡ flat_map string_bytes strings)

-- the rdata is so many bytes, so many names without pointers, and so many bytes
pub record HoldsNames (s : NamesShape) (rdata : List ℕ) : Type 0 where
  pub front : List ℕ
  pub names : List (List (List ℕ))
  pub back : List ℕ
  pub before : length front ≡ s.front
  pub count : length names ≡ s.names
  pub each : AllByRecursion IsName names
  pub behind : length back ≡ s.back
  pub parts : rdata ≡ front ++ flat_map name_bytes names ++ back

-- rdata that is held, with its names expanded, has the shape
abbrev pub HasShape : Shape → List ℕ → Type 0
HasShape shapes.Any rdata = Unit {0}
HasShape (shapes.Bytes count) rdata = length rdata ≡ count
HasShape shapes.TwoStrings rdata = HoldsStrings 2 rdata
HasShape shapes.Strings rdata = (count : ℕ) × HoldsStrings count rdata
HasShape (shapes.Names s) rdata = HoldsNames s rdata

-- the record's rdata has the shape of its kind and class
abbrev pub IsWellFormed : Record → Type 0
IsWellFormed rr = HasShape (shape_by rr.kind rr.class) rr.rdata

-- the record can be written: its rdata has at most 65,535 bytes, and its shape
pub record IsWritable (rr : Record) : Type 0 where
  pub short : length rr.rdata ≤ 65535
  pub shaped : IsWellFormed rr

-- the records can be written as one section: there are at most 65,535, and each can be written
pub record AreWritable (records : List Record) : Type 0 where
  pub few : length records ≤ 65535
  pub each : AllByRecursion IsWritable records

-- the message can be written, but for its length
pub record IsValid (m : Message) : Type 0 where
  pub questions : length m.questions ≤ 65535
  pub answers : AreWritable m.answers
  pub authorities : AreWritable m.authorities
  pub additionals : AreWritable m.additionals

-- the bytes behind the name that stands in front, of at most so many parts and with room for so many bytes:
-- its labels of at most 63 bytes, and the root's zero byte; a pointer is no label
abbrev pub behind_within : ℕ → ℕ → List ℕ → Option (List ℕ)
behind_within n room [] = None
behind_within zero room (len ∷ bytes) = None
behind_within (suc n) room (len ∷ bytes) =
    if room == 0 then None
    else (if len == 0 then Some bytes
    else (if nat_lt 63 len then None else behind_within n (room - (len + 1)) (drop len bytes)))

-- the bytes behind the name that stands in front, with room for so many bytes
unfoldable pub behind_room : ℕ → List ℕ → Option (List ℕ)
behind_room room bytes = behind_within (length bytes) room bytes

-- the bytes behind so many names that stand in front, each of at most 255 bytes
abbrev pub behind_names : ℕ → List ℕ → Option (List ℕ)
behind_names zero bytes = Some bytes
behind_names (suc n) bytes = option_and_then (behind_names n) (behind_room 255 bytes)

-- there are bytes left, and they are so many
abbrev pub are_left : ℕ → Option (List ℕ) → Bool
are_left back None = false
are_left back (Some bytes) = length bytes == back

-- the test of so many bytes, so many names without pointers, and so many bytes
abbrev pub holds_names : NamesShape → List ℕ → Bool
holds_names s rdata = nat_le s.front (length rdata) && are_left s.back (behind_names s.names (drop s.front rdata))

-- the test whether rdata that is held has the shape
abbrev pub holds_shape : Shape → List ℕ → Bool
holds_shape shapes.Any rdata = true
holds_shape (shapes.Bytes count) rdata = length rdata == count
holds_shape shapes.TwoStrings rdata = is_two (strings_of rdata)
holds_shape shapes.Strings rdata = is_some (strings_of rdata)
holds_shape (shapes.Names s) rdata = holds_names s rdata

-- the test whether the record's rdata has the shape of its kind and class
unfoldable pub well_formed : Record → Bool
well_formed rr = holds_shape (shape_by rr.kind rr.class) rr.rdata

-- the test whether the record can be written
abbrev pub is_writable : Record → Bool
is_writable rr = nat_le (length rr.rdata) 65535 && well_formed rr

-- the test whether the records can be written as one section
abbrev pub are_writable : List Record → Bool
are_writable records = nat_le (length records) 65535 && list_all is_writable records

-- the test whether the message can be written, but for its length
abbrev pub is_valid : Message → Bool
is_valid m = nat_le (length m.questions) 65535 && are_writable m.answers && are_writable m.authorities && are_writable m.additionals
