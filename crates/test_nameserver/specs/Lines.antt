-- What the lines of a zone's text say (the form `NAME TTL TYPE VALUE`, after RFC 1035, section 5.1).
use Rattle.std.specs.Prelude.{◌≡◌, ℕ, Bool, true, ◌+◌, ◌&&◌, nat_lt, nat_le, ◌==◌, not, is_some, if◌then◌else◌, List, [], ◌∷◌, ◌++◌, length, position, filter_map, codes, bytes_eq, Option, Some, None, option_map, Result, Ok, Err, ⊤}
use Rattle.std.specs.Option.{option_and_then}
use Rattle.byteorder.specs.Endian.{big_bytes}
use Rattle.dns_message.specs.Numbers.{class_in, kind_a, kind_aaaa, kind_cname, kind_mx, kind_ns, kind_ptr, kind_txt}
use Rattle.dns_message.specs.Spelling.{name_bytes}
use Rattle.dns_message.specs.declared.message.Record.{Record}
use Rattle.net_addr.specs.declared.addr.Addr.{Addr}
use Rattle.net_addr.specs.declared.addr.Addr.TheVariants.{V4, V6}
use Rattle.net_addr.specs.Reading.{address_of}
use Rattle.text_lines.specs.Lines.{lines_of}
use Rattle.text_lines.specs.Names.{name_of}
use Rattle.test_nameserver.specs.Words.{words_of, number_up_to}
use Rattle.test_nameserver.specs.declared.fault.ZoneFault.{ZoneFault}
use Rattle.test_nameserver.specs.declared.fault.ZoneFault.TheVariants.{TooLarge, BadLine, NoMemory}

-- the type that a word names: A, NS, CNAME, PTR, MX, TXT (RFC 1035, section 3.2.2) or AAAA (RFC 3596), in upper case
abbrev pub kind_in : List ℕ → Option ℕ
kind_in word =
    if bytes_eq word (codes "A") then Some kind_a
    else (if bytes_eq word (codes "NS") then Some kind_ns
    else (if bytes_eq word (codes "CNAME") then Some kind_cname
    else (if bytes_eq word (codes "PTR") then Some kind_ptr
    else (if bytes_eq word (codes "MX") then Some kind_mx
    else (if bytes_eq word (codes "TXT") then Some kind_txt
    else (if bytes_eq word (codes "AAAA") then Some kind_aaaa
    else None))))))

-- the four bytes of an IPv4 address
abbrev pub v4_bytes : Addr → Option (List ℕ)
v4_bytes (V4 a) = Some (big_bytes 4 a)
v4_bytes (V6 a) = None

-- the sixteen bytes of an IPv6 address
abbrev pub v6_bytes : Addr → Option (List ℕ)
v6_bytes (V4 a) = None
v6_bytes (V6 a) = Some (big_bytes 16 a)

-- a word of at most 255 bytes as a string: its length, and its bytes (RFC 1035, section 3.3)
abbrev pub string_of : List ℕ → Option (List ℕ)
string_of word = if nat_le (length word) 255 then Some (length word ∷ word) else None

-- the rdata that one word is, of a type that has one
abbrev pub rdata_of_word : ℕ → List ℕ → Option (List ℕ)
rdata_of_word kind word =
    if kind == kind_a then option_and_then v4_bytes (address_of word)
    else (if kind == kind_aaaa then option_and_then v6_bytes (address_of word)
    else (if kind == kind_txt then string_of word
    else option_map name_bytes (name_of word)))

-- the rdata of an MX record: a preference, and the name of the exchange (RFC 1035, section 3.3.9)
abbrev pub mx_rdata : List ℕ → List ℕ → Option (List ℕ)
mx_rdata preference exchange = option_and_then (λ number. option_map (λ name. big_bytes 2 number ++ name_bytes name) (name_of exchange)) (number_up_to 65535 preference)

-- the rdata that the words behind a type are: MX has two, the others one
abbrev pub rdata_of : ℕ → List (List ℕ) → Option (List ℕ)
rdata_of kind [] = None
rdata_of kind (word ∷ []) = if kind == kind_mx then None else rdata_of_word kind word
rdata_of kind (word ∷ second ∷ []) = if kind == kind_mx then mx_rdata word second else None
rdata_of kind (word ∷ second ∷ third ∷ words) = None

-- a record of the Internet's class
abbrev pub record_with : List (List ℕ) → ℕ → ℕ → List ℕ → Record
record_with name ttl kind rdata = record { name = name; kind = kind; class = class_in; ttl = ttl; rdata = rdata }

-- the record of these words, if they have the form; the time to live is at most 2 ^ 31 - 1 (RFC 2181, section 8)
abbrev pub record_of_words : List (List ℕ) → Option Record
record_of_words [] = None
record_of_words (name ∷ []) = None
record_of_words (name ∷ ttl ∷ []) = None
record_of_words (name ∷ ttl ∷ type ∷ values) =
    option_and_then (λ labels. option_and_then (λ seconds. option_and_then (λ kind.
    option_map (record_with labels seconds kind) (rdata_of kind values))
    (kind_in type)) (number_up_to 2147483647 ttl)) (name_of name)

-- the line says nothing: it is empty, or begins with `#`
abbrev pub is_comment : List ℕ → Bool
is_comment [] = true
is_comment (first ∷ line) = first == 35

-- the record that a line gives
abbrev pub record_of_line : List ℕ → Option Record
record_of_line line = if is_comment line then None else record_of_words (words_of line)

-- the line has to give a record and gives none
abbrev pub is_bad : List ℕ → Bool
is_bad line = not (is_comment line) && not (is_some (record_of_line line))

-- the records of these lines, in order, if none is bad; else the number of the first bad one, from 1
abbrev pub records_or : List (List ℕ) → Option ℕ → Result (List Record) ZoneFault
records_or lines None = Ok (filter_map record_of_line lines)
records_or lines (Some index) = Err (BadLine (index + 1))

-- the records of these lines, in order, or the first bad one
abbrev pub lines_read : List (List ℕ) → Result (List Record) ZoneFault
lines_read lines = records_or lines (position is_bad lines)

-- the records that a zone's text says, or its fault
abbrev pub zone_of : List ℕ → Result (List Record) ZoneFault
zone_of text = if nat_lt 1048576 (length text) then Err TooLarge else lines_read (lines_of text)

-- the records with that of a line behind them, where the line with this number says something
abbrev pub added : List Record → ℕ → Option Record → Result (List Record) ZoneFault
added records number None = Err (BadLine number)
added records number (Some rr) = Ok (records ++ rr ∷ [])

abbrev pub line_added : List Record → List ℕ → ℕ → Result (List Record) ZoneFault
line_added records line number = if is_comment line then Ok records else added records number (record_of_words (words_of line))

-- a call gave what reading gives; want of memory may come in place of any answer
abbrev pub Gives : Result (List Record) ZoneFault → Result (List Record) ZoneFault → Type 0
Gives (Ok zone) read = read ≡ Ok zone
Gives (Err TooLarge) read = read ≡ Err TooLarge
Gives (Err (BadLine number)) read = read ≡ Err (BadLine number)
Gives (Err NoMemory) read = ⊤
