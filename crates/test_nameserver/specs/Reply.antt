-- The reply of a nameserver to a query (RFC 1035, section 4.1.1; RFC 6891, sections 6.1 and 6.2.3).
use Rattle.std.specs.Prelude.{ℕ, ◌+◌, ◌*◌, ◌/◌, ◌%◌, ◌^◌, ◌==◌, nat_le, max, Bool, true, false, if◌then◌else◌, List, [], ◌∷◌, length, Option, Some, None, option_map}
use Rattle.dns_message.specs.Numbers.{flag_aa, flag_qr, flag_ra, flag_rd, flag_tc, rcode_name_error, rcode_no_error, rcode_not_implemented}
use Rattle.dns_message.specs.Spelling.{message_bytes}
use Rattle.dns_message.specs.declared.message.Message.{Message}
use Rattle.dns_message.specs.declared.message.Record.{Record}
use Rattle.edns_opt.specs.declared.opt.Opt.{Opt}
use Rattle.edns_opt.specs.Opt.{opt_record}
use Rattle.test_nameserver.specs.Zone.{records_of}
use Rattle.test_nameserver.specs.Answers.{answers_of}
use Rattle.test_nameserver.specs.Query.{asked_by}
use Rattle.test_nameserver.specs.declared.query.Query.{Query}

-- the query is a standard one: its OPCODE is 0
abbrev pub is_standard : Query → Bool
is_standard query = query.flags / 2 ^ 11 % 2 ^ 4 == 0

-- there is no record
abbrev pub are_none : List Record → Bool
are_none records = length records == 0

-- the response code: NOTIMP (4) to another OPCODE, NXDOMAIN (3) to a name without a record, and else NOERROR (0)
abbrev pub rcode_for : List Record → Query → ℕ
rcode_for zone query = if is_standard query then (if are_none (records_of query.question.name zone) then rcode_name_error else rcode_no_error) else rcode_not_implemented

-- the answers, which another OPCODE has none of
abbrev pub answers_for : List Record → Query → List Record
answers_for zone query = if is_standard query then answers_of zone query.question.kind query.question.name else []

-- the flags: QR, AA and RA, the bit RD of the query, TC where the reply is cut, and the response code; OPCODE and Z are 0
abbrev pub reply_flags : ℕ → Bool → ℕ → ℕ
reply_flags asked cut rcode = flag_qr + flag_aa + flag_ra + asked / flag_rd % 2 * flag_rd + (if cut then flag_tc else 0) + rcode

-- what the OPT record of a reply says: its sender takes datagrams of 1232 bytes (this project's profile)
abbrev pub own_opt : Opt
own_opt = record { size = 1232; ext_rcode = 0; version = 0; do_bit = false; options = [] }

-- the OPT record of a reply to a query that has one, or none
abbrev pub opt_records_for : Option ℕ → List Record
opt_records_for None = []
opt_records_for (Some size) = opt_record own_opt ∷ []

-- the reply with these flags and answers
abbrev pub reply_with : Query → ℕ → List Record → Message
reply_with query flags answers = record { id = query.id; flags = flags; questions = query.question ∷ []; answers = answers; authorities = []; additionals = opt_records_for query.size }

-- the reply with all its answers
abbrev pub whole_reply : List Record → Query → Message
whole_reply zone query = reply_with query (reply_flags query.flags false (rcode_for zone query)) (answers_for zone query)

-- the reply without its answers
abbrev pub cut_reply : List Record → Query → Message
cut_reply zone query = reply_with query (reply_flags query.flags true (rcode_for zone query)) []

-- the most bytes of a reply: over TCP what its length can count, over UDP what the query's OPT record says, and 512 at least
abbrev pub most_bytes : Bool → Option ℕ → ℕ
most_bytes true size = 65535
most_bytes false None = 512
most_bytes false (Some size) = max 512 size

-- the reply on the wire: the whole one, or the cut one where that would be too long
abbrev pub reply_bytes : List Record → Query → Bool → List ℕ
reply_bytes zone query tcp =
    if nat_le (length (message_bytes (whole_reply zone query))) (most_bytes tcp query.size) then message_bytes (whole_reply zone query)
    else message_bytes (cut_reply zone query)

-- the reply to what bytes ask, if they are a query
abbrev pub reply_to : List Record → List ℕ → Bool → Option (List ℕ)
reply_to zone bytes tcp = option_map (λ query. reply_bytes zone query tcp) (asked_by bytes)
