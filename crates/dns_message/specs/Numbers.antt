-- The numbers of the standard (RFC 1035, sections 3.2.2 to 3.2.5 and 4.1.1), and what a message's flags say.
use Rattle.std.specs.Prelude.{ℕ, Bool, ◌/◌, ◌^◌, ◌%◌, ◌==◌, if◌then◌else◌}
use Rattle.dns_message.specs.declared.message.Message.{Message}

-- ---- kinds of records (section 3.2.2)

-- an IPv4 address
abbrev pub kind_a : ℕ
kind_a = 1

-- a name server
abbrev pub kind_ns : ℕ
kind_ns = 2

-- the name that an alias stands for
abbrev pub kind_cname : ℕ
kind_cname = 5

-- where a zone begins
abbrev pub kind_soa : ℕ
kind_soa = 6

-- a pointer to a name
abbrev pub kind_ptr : ℕ
kind_ptr = 12

-- what a host is
abbrev pub kind_hinfo : ℕ
kind_hinfo = 13

-- where mail goes
abbrev pub kind_mx : ℕ
kind_mx = 15

-- strings
abbrev pub kind_txt : ℕ
kind_txt = 16

-- an IPv6 address (RFC 3596, section 2.1)
abbrev pub kind_aaaa : ℕ
kind_aaaa = 28

-- where a service is (RFC 2782)
abbrev pub kind_srv : ℕ
kind_srv = 33

-- the options of a message (RFC 6891, section 6.1.1)
abbrev pub kind_opt : ℕ
kind_opt = 41

-- all records, in a question (section 3.2.3)
abbrev pub kind_any : ℕ
kind_any = 255

-- ---- classes (section 3.2.4)

-- the Internet class
abbrev pub class_in : ℕ
class_in = 1

-- the CHAOS class
abbrev pub class_ch : ℕ
class_ch = 3

-- any class, in a question (section 3.2.5)
abbrev pub class_any : ℕ
class_any = 255

-- ---- the bits of a header's flags (section 4.1.1)

-- a response (QR)
abbrev pub flag_qr : ℕ
flag_qr = 0x8000

-- the kind of query (OPCODE)
abbrev pub flags_opcode : ℕ
flags_opcode = 0x7800

-- an answer with authority (AA)
abbrev pub flag_aa : ℕ
flag_aa = 0x0400

-- truncated (TC)
abbrev pub flag_tc : ℕ
flag_tc = 0x0200

-- recursion is desired (RD)
abbrev pub flag_rd : ℕ
flag_rd = 0x0100

-- recursion is available (RA)
abbrev pub flag_ra : ℕ
flag_ra = 0x0080

-- for later use (Z)
abbrev pub flags_z : ℕ
flags_z = 0x0070

-- the response code (RCODE)
abbrev pub flags_rcode : ℕ
flags_rcode = 0x000f

-- ---- response codes (section 4.1.1)

-- no error
abbrev pub rcode_no_error : ℕ
rcode_no_error = 0

-- the server couldn't read the query
abbrev pub rcode_format_error : ℕ
rcode_format_error = 1

-- the server failed
abbrev pub rcode_server_failure : ℕ
rcode_server_failure = 2

-- there is no such name
abbrev pub rcode_name_error : ℕ
rcode_name_error = 3

-- the server doesn't do this kind of query
abbrev pub rcode_not_implemented : ℕ
rcode_not_implemented = 4

-- the server refused the query
abbrev pub rcode_refused : ℕ
rcode_refused = 5

-- ---- what flags say (section 4.1.1)

-- the bit k is set, bit 0 being the lowest
abbrev pub has_bit : ℕ → ℕ → Bool
has_bit k bits = (bits / 2 ^ k) % 2 == 1

-- the message is a response (QR)
abbrev pub is_response : Message → Bool
is_response message = has_bit 15 message.flags

-- the message is a standard query or the response to one (OPCODE 0)
abbrev pub is_standard : Message → Bool
is_standard message = (message.flags / 2 ^ 11) % 16 == 0

-- the message was truncated (TC)
abbrev pub is_truncated : Message → Bool
is_truncated message = has_bit 9 message.flags

-- the response code of the header, its lowest four bits (RCODE)
abbrev pub header_rcode : Message → ℕ
header_rcode message = message.flags % 16

-- the flags of a query that asks for recursion (RD), or that doesn't
abbrev pub query_flags : Bool → ℕ
query_flags norecurse = if norecurse then 0 else flag_rd
