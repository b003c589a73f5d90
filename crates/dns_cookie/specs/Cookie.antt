-- The query that carries a cookie (RFC 7873, sections 4 and 5.1).
use Rattle.std.specs.Prelude.{ℕ, ◌+◌, ◌-◌, nat_le, nat_lt, if◌then◌else◌, Bool, false, List, ◌++◌, length, map, is_some, Option, Some, None, Result, Ok, Err}
use Rattle.std.specs.Option.{option_and_then}
use Rattle.std.specs.Result.{result_ok}
use Rattle.dns_message.specs.Reading.{message_read}
use Rattle.dns_message.specs.Spelling.{message_bytes}
use Rattle.dns_message.specs.declared.message.Message.{Message}
use Rattle.dns_message.specs.declared.message.Record.{Record}
use Rattle.edns_opt.specs.Opt.{is_opt}
use Rattle.edns_opt.specs.Options.{option_spelling}
use Rattle.edns_opt.specs.Reading.{opt_of}
use Rattle.edns_opt.specs.declared.fault.EdnsFault.{EdnsFault}
use Rattle.edns_opt.specs.declared.opt.EdnsItem.{EdnsItem}
use Rattle.edns_opt.specs.declared.opt.Opt.{Opt}

-- the code of the cookie option (RFC 7873, section 4)
abbrev pub cookie_code : ℕ
cookie_code = 10

-- the option that carries a cookie: 8 bytes of the client's, and behind them 8 to 32 of the server's, where they are known
abbrev pub cookie_option : List ℕ → EdnsItem
cookie_option cookie = record { code = cookie_code; content = cookie }

-- the message was read to have one OPT record
abbrev pub has_opt : Result (Option Opt) EdnsFault → Bool
has_opt (Ok opt) = is_some opt
has_opt (Err fault) = false

-- the record with an option, which is spelled so, behind its others, where it is an OPT record
abbrev pub record_with : List ℕ → Record → Record
record_with option rr = if is_opt rr then record rr { rdata = rr.rdata ++ option } else rr

-- the message with that option behind the others of its OPT record
abbrev pub message_with : List ℕ → Message → Message
message_with option message = record message { additionals = map (record_with option) message.additionals }

-- the bytes of a message with a cookie of so many bytes, unless they would be more than 65,535 with one of 40
abbrev pub written : ℕ → Message → Option (List ℕ)
written cookie message = if nat_le (length (message_bytes message) + (40 - cookie)) 65535 then Some (message_bytes message) else None

-- a message with this cookie on the wire; or none, where it has no OPT record that can be read, or no room for the longest cookie
abbrev pub cookied_message : List ℕ → Message → Option (List ℕ)
cookied_message cookie message =
    if has_opt (opt_of message) then written (length cookie) (message_with (option_spelling (cookie_option cookie)) message) else None

-- a query with this cookie on the wire; or none, where it is no message, or one that goes as it is
abbrev pub cookied_query : List ℕ → List ℕ → Option (List ℕ)
cookied_query cookie query = option_and_then (cookied_message cookie) (result_ok (message_read query))

-- the same, where the cookie is no longer than one can be
abbrev pub cookied : List ℕ → List ℕ → Option (List ℕ)
cookied cookie query = if nat_lt 40 (length cookie) then None else cookied_query cookie query
