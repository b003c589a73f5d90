-- The bytes that spell typed rdata: numbers with their highest byte first, names without pointers, and strings behind
-- their lengths (RFC 1035, sections 3.3 and 3.4; RFC 2782; RFC 3596).
use Rattle.std.specs.Prelude.{ℕ, List, ◌++◌, flat_map}
use Rattle.byteorder.specs.Endian.{big_bytes}
use Rattle.dns_message.specs.Spelling.{label_bytes, name_bytes}
use Rattle.net_addr.specs.declared.addr.Addr.{Addr}
use Rattle.net_addr.specs.declared.addr.Addr.TheVariants.{V4, V6}
use Rattle.dns_rdata.specs.declared.data.RecordData.{RecordData}
use Rattle.dns_rdata.specs.declared.data.RecordData.TheVariants.{A, Ns, Cname, Soa, Ptr, Hinfo, Mx, Txt, Aaaa, Srv, Opt, Raw}

-- an address: four bytes, or sixteen
abbrev pub address_bytes : Addr → List ℕ
address_bytes (V4 a) = big_bytes 4 a
address_bytes (V6 a) = big_bytes 16 a

-- the bytes of rdata that says this; a string is spelled as a label is, by its length and its bytes
abbrev pub data_bytes : RecordData → List ℕ
data_bytes (A address) = address_bytes address
data_bytes (Ns name) = name_bytes name
data_bytes (Cname name) = name_bytes name
data_bytes (Soa mname rname serial refresh retry expire minimum) =
    name_bytes mname ++ name_bytes rname ++ big_bytes 4 serial ++ big_bytes 4 refresh
    ++ big_bytes 4 retry ++ big_bytes 4 expire ++ big_bytes 4 minimum
data_bytes (Ptr name) = name_bytes name
data_bytes (Hinfo cpu os) = label_bytes cpu ++ label_bytes os
data_bytes (Mx preference exchange) = big_bytes 2 preference ++ name_bytes exchange
data_bytes (Txt strings) = flat_map label_bytes strings
data_bytes (Aaaa address) = address_bytes address
data_bytes (Srv priority weight port target) =
    big_bytes 2 priority ++ big_bytes 2 weight ++ big_bytes 2 port ++ name_bytes target
data_bytes (Opt bytes) = bytes
data_bytes (Raw bytes) = bytes
