-- What rdata says, by the type and class of its record (RFC 1035, sections 3.3 and 3.4; RFC 2782; RFC 3596; RFC 6891).
use Rattle.std.specs.Prelude.{◌≡◌, ℕ, ◌&&◌, nat_lt, ◌==◌, if◌then◌else◌, List, [], ◌∷◌, length, drop, Option, Some, None, option_map}
use Rattle.std.specs.Option.{option_and_then}
use Rattle.std.specs.List.{AllByRecursion}
use Rattle.byteorder.specs.Endian.{big_from}
use Rattle.dns_message.specs.Numbers.{kind_a, kind_ns, kind_cname, kind_soa, kind_ptr, kind_hinfo, kind_mx, kind_txt, kind_aaaa, kind_srv, kind_opt, class_in}
use Rattle.dns_message.specs.declared.message.Message.{Message}
use Rattle.dns_message.specs.declared.message.Record.{Record}
use Rattle.net_addr.specs.declared.addr.Addr.{Addr}
use Rattle.net_addr.specs.declared.addr.Addr.TheVariants.{V4, V6}
use Rattle.dns_rdata.specs.declared.data.RecordData.{RecordData}
use Rattle.dns_rdata.specs.declared.data.RecordData.TheVariants.{A, Ns, Cname, Soa, Ptr, Hinfo, Mx, Txt, Aaaa, Srv, Opt, Raw}
use Rattle.dns_rdata.specs.Parts.{name_in, strings_in, whole_name}

-- four bytes are an IPv4 address
abbrev pub v4_in : List ℕ → Option Addr
v4_in bytes = if length bytes == 4 then Some (V4 (big_from 0 4 bytes)) else None

-- sixteen bytes are an IPv6 address
abbrev pub v6_in : List ℕ → Option Addr
v6_in bytes = if length bytes == 16 then Some (V6 (big_from 0 16 bytes)) else None

-- two names, and five numbers of 32 bits behind them
abbrev pub soa_of : List (List ℕ) → List (List ℕ) × List ℕ → Option RecordData
soa_of mname found =
    if length found.1 == 20
    then Some (Soa mname found.0 (big_from 0 4 found.1) (big_from 4 4 found.1) (big_from 8 4 found.1) (big_from 12 4 found.1) (big_from 16 4 found.1))
    else None

abbrev pub soa_in : List ℕ → Option RecordData
soa_in bytes = option_and_then (λ found. option_and_then (soa_of found.0) (name_in found.1)) (name_in bytes)

-- two strings
abbrev pub hinfo_of : List (List ℕ) → Option RecordData
hinfo_of [] = None
hinfo_of (cpu ∷ []) = None
hinfo_of (cpu ∷ os ∷ []) = Some (Hinfo cpu os)
hinfo_of (cpu ∷ os ∷ third ∷ strings) = None

abbrev pub hinfo_in : List ℕ → Option RecordData
hinfo_in bytes = option_and_then hinfo_of (strings_in bytes)

-- a number of 16 bits, and a name
abbrev pub mx_in : List ℕ → Option RecordData
mx_in bytes = if nat_lt (length bytes) 2 then None else option_map (Mx (big_from 0 2 bytes)) (whole_name (drop 2 bytes))

-- three numbers of 16 bits, and a name
abbrev pub srv_in : List ℕ → Option RecordData
srv_in bytes =
    if nat_lt (length bytes) 6 then None
    else option_map (Srv (big_from 0 2 bytes) (big_from 2 2 bytes) (big_from 4 2 bytes)) (whole_name (drop 6 bytes))

-- what rdata says in a record of this type and class; A, AAAA and SRV are so in the Internet's class alone
abbrev pub data_in : ℕ → ℕ → List ℕ → Option RecordData
data_in kind class bytes =
    if kind == kind_a && class == class_in then option_map A (v4_in bytes)
    else (if kind == kind_ns then option_map Ns (whole_name bytes)
    else (if kind == kind_cname then option_map Cname (whole_name bytes)
    else (if kind == kind_soa then soa_in bytes
    else (if kind == kind_ptr then option_map Ptr (whole_name bytes)
    else (if kind == kind_hinfo then hinfo_in bytes
    else (if kind == kind_mx then mx_in bytes
    else (if kind == kind_txt then option_map Txt (strings_in bytes)
    else (if kind == kind_aaaa && class == class_in then option_map Aaaa (v6_in bytes)
    else (if kind == kind_srv && class == class_in then srv_in bytes
    else (if kind == kind_opt then Some (Opt bytes)
    else Some (Raw bytes)))))))))))

-- what a record's rdata says, if it has the shape of its type and class
unfoldable pub data_of : Record → Option RecordData
data_of rr = data_in rr.kind rr.class rr.rdata

-- the record's rdata has a typed form
abbrev pub IsTyped : Record → Type 0
IsTyped rr = (typed : RecordData) × (data_of rr ≡ Some typed)

-- the rdata of each record of the message has a typed form
pub record AreTyped (m : Message) : Type 0 where
  pub answers : AllByRecursion IsTyped m.answers
  pub authorities : AllByRecursion IsTyped m.authorities
  pub additionals : AllByRecursion IsTyped m.additionals
