-- What a reply says of cookies (RFC 7873, sections 4 and 5.3).
use Rattle.std.specs.Prelude.{ℕ, Bool, ◌==◌, find, List, Option, Some, None, option_map, Result, Ok, Err}
use Rattle.std.specs.Option.{option_and_then}
use Rattle.std.specs.Result.{result_ok}
use Rattle.dns_message.specs.Reading.{message_read}
use Rattle.dns_message.specs.declared.message.Message.{Message}
use Rattle.edns_opt.specs.Opt.{rcode_of}
use Rattle.edns_opt.specs.Reading.{opt_of}
use Rattle.edns_opt.specs.declared.fault.EdnsFault.{EdnsFault}
use Rattle.edns_opt.specs.declared.opt.EdnsItem.{EdnsItem}
use Rattle.edns_opt.specs.declared.opt.Opt.{Opt}
use Rattle.dns_cookie.specs.Cookie.{cookie_code}
use Rattle.dns_cookie.specs.declared.reply.CookieReply.{CookieReply}

-- it is a cookie option
abbrev pub is_cookie : EdnsItem → Bool
is_cookie item = item.code == cookie_code

-- the content of the first cookie option of some options, where there is one
abbrev pub first_cookie : List EdnsItem → Option (List ℕ)
first_cookie items = option_map (λ item. item.content) (find is_cookie items)

-- the cookie of an OPT record, where there is one: the first option 10 counts alone
abbrev pub cookie_of : Option Opt → Option (List ℕ)
cookie_of opt = option_and_then (λ found. first_cookie found.options) opt

-- the cookie of what reading the OPT record gave
abbrev pub cookie_by : Result (Option Opt) EdnsFault → Option (List ℕ)
cookie_by (Ok opt) = cookie_of opt
cookie_by (Err fault) = None

-- the cookie of a message, where it has one OPT record with one
abbrev pub cookie_in : Message → Option (List ℕ)
cookie_in message = cookie_by (opt_of message)

-- what a message with this OPT record says of cookies
abbrev pub reply_with : Message → Option Opt → CookieReply
reply_with message opt = record { id = message.id; rcode = rcode_of message opt; cookie = cookie_of opt }

-- what a message says of cookies whose OPT record was read so
abbrev pub reply_by : Message → Result (Option Opt) EdnsFault → Option CookieReply
reply_by message (Ok opt) = Some (reply_with message opt)
reply_by message (Err fault) = None

-- what a message says of cookies
abbrev pub reply_of : Message → Option CookieReply
reply_of message = reply_by message (opt_of message)

-- what a datagram says of cookies; nothing, where it is no message, or has OPT records that can't be read
abbrev pub reply_in : List ℕ → Option CookieReply
reply_in bytes = option_and_then reply_of (result_ok (message_read bytes))
