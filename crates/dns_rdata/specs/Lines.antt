-- Records as lines of text (RFC 1035, section 5.1; RFC 3597, section 5).
use Rattle.std.specs.Prelude.{ℕ, ◌+◌, ◌/◌, ◌%◌, ◌^◌, ◌&&◌, ◌||◌, nat_le, ◌==◌, if◌then◌else◌, List, [], ◌∷◌, ◌++◌, length, map, flat_map, Option, Some, None, codes, decimal}
use Rattle.std.specs.Char.{digit_char}
use Rattle.dns_message.specs.declared.message.Record.{Record}
use Rattle.dns_message.specs.Numbers.{kind_opt}
use Rattle.dns_message.specs.NamePrinting.{text_of as name_text}
use Rattle.net_addr.specs.Text.{text_of as address_text}
use Rattle.dns_rdata.specs.declared.data.RecordData.{RecordData}
use Rattle.dns_rdata.specs.declared.data.RecordData.TheVariants.{A, Ns, Cname, Soa, Ptr, Hinfo, Mx, Txt, Aaaa, Srv, Opt, Raw}
use Rattle.dns_rdata.specs.Table.{kind_text, class_text}
use Rattle.dns_rdata.specs.Rdata.{data_of}

-- a byte of a string: quotes and backslashes have a backslash before them, a byte from 0x20 to 0x7e is printed as it is, and any other as a backslash and three digits
abbrev pub quoted_byte : ℕ → List ℕ
quoted_byte b =
    if b == 34 || b == 92 then 92 ∷ b ∷ []
    else (if nat_le 32 b && nat_le b 126 then b ∷ [] else 92 ∷ (48 + b / 100) ∷ (48 + b / 10 % 10) ∷ (48 + b % 10) ∷ [])

-- a string, in quotes
abbrev pub quoted : List ℕ → List ℕ
quoted string = 34 ∷ flat_map quoted_byte string ++ 34 ∷ []

-- a byte as two hexadecimal digits, in lower case
abbrev pub hex_byte : ℕ → List ℕ
hex_byte b = digit_char (b / 16) ∷ digit_char (b % 16) ∷ []

-- the bytes in hexadecimal as one word, and none for no bytes
abbrev pub hex_words : List ℕ → List (List ℕ)
hex_words [] = []
hex_words (b ∷ bytes) = flat_map hex_byte (b ∷ bytes) ∷ []

-- the form of unknown types: `\#`, how many bytes there are, and the bytes in hexadecimal
abbrev pub generic : List ℕ → List (List ℕ)
generic bytes = (92 ∷ 35 ∷ []) ∷ decimal (length bytes) ∷ hex_words bytes

-- the words that typed rdata is printed as
abbrev pub data_words : RecordData → List (List ℕ)
data_words (A address) = address_text address ∷ []
data_words (Ns name) = name_text name ∷ []
data_words (Cname name) = name_text name ∷ []
data_words (Soa mname rname serial refresh retry expire minimum) =
    name_text mname ∷ name_text rname ∷ decimal serial ∷ decimal refresh ∷ decimal retry ∷ decimal expire ∷ decimal minimum ∷ []
data_words (Ptr name) = name_text name ∷ []
data_words (Hinfo cpu os) = quoted cpu ∷ quoted os ∷ []
data_words (Mx preference exchange) = decimal preference ∷ name_text exchange ∷ []
data_words (Txt strings) = map quoted strings
data_words (Aaaa address) = address_text address ∷ []
data_words (Srv priority weight port target) = decimal priority ∷ decimal weight ∷ decimal port ∷ name_text target ∷ []
data_words (Opt bytes) = generic bytes
data_words (Raw bytes) = generic bytes

-- the words of typed rdata, or without one the bytes in the form of unknown types
abbrev pub words_or : List ℕ → Option RecordData → List (List ℕ)
words_or bytes None = generic bytes
words_or bytes (Some typed) = data_words typed

-- the words that a record's rdata is printed as
abbrev pub rdata_words : Record → List (List ℕ)
rdata_words rr = words_or rr.rdata (data_of rr)

-- what the ttl of an OPT record says (RFC 6891, section 6.1.3): the upper bits of the response code, the version, and the bit DO
abbrev pub ttl_words : ℕ → List (List ℕ)
ttl_words ttl =
    codes "ext" ∷ decimal (ttl / 2 ^ 24) ∷ codes "version" ∷ decimal (ttl / 2 ^ 16 % 2 ^ 8) ∷ codes "do" ∷ decimal (ttl / 2 ^ 15 % 2) ∷ []

-- the words behind the name of an OPT record: its class is the payload size
abbrev pub opt_words : Record → List (List ℕ)
opt_words rr =
    codes "OPT" ∷ codes "size" ∷ decimal rr.class ∷ ttl_words rr.ttl ++ generic rr.rdata

-- the words behind a record's name
abbrev pub words_behind : Record → List (List ℕ)
words_behind rr =
    if rr.kind == kind_opt then opt_words rr
    else (decimal rr.ttl ∷ class_text rr.class ∷ kind_text rr.kind ∷ rdata_words rr)

-- a word behind a blank
abbrev pub spaced : List ℕ → List ℕ
spaced word = 32 ∷ word

-- a record's line: its name, each further word behind a blank, and LF
unfoldable pub line_of : Record → List ℕ
line_of rr = name_text rr.name ++ flat_map spaced (words_behind rr) ++ 10 ∷ []
