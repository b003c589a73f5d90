-- The page of adig: the question, how it ended, and the reply that ended it.
use Rattle.std.specs.Prelude.{ℕ, ◌/◌, ◌%◌, ◌^◌, ◌==◌, if◌then◌else◌, List, [], ◌∷◌, ◌++◌, flat_map, codes, decimal, Option, None, Result, Ok, Err}
use Rattle.chan_types.specs.declared.answer.Answer.{Answer}
use Rattle.chan_types.specs.declared.status.Status.{Status}
use Rattle.chan_types.specs.Statuses.{code_of, text_of}
use Rattle.dns_message.specs.declared.fault.MessageFault.{MessageFault}
use Rattle.dns_message.specs.declared.message.Message.{Message}
use Rattle.dns_message.specs.declared.message.Record.{Record}
use Rattle.dns_message.specs.Reading.{message_read}
use Rattle.dns_rdata.specs.Lines.{spaced, line_of}
use Rattle.dns_rdata.specs.Table.{class_text, kind_text}
use Rattle.edns_opt.specs.declared.fault.EdnsFault.{EdnsFault}
use Rattle.edns_opt.specs.declared.opt.Opt.{Opt}
use Rattle.edns_opt.specs.Opt.{rcode_of}
use Rattle.edns_opt.specs.Reading.{opt_of}
use Rattle.tool_line.specs.Words.{Text}

-- a line of the page's own: `;;`, each word behind a blank, and LF
abbrev pub note : List Text → Text
note words = codes ";;" ++ flat_map spaced words ++ 10 ∷ []

-- the question: the name as it was given, its class and its type
abbrev pub question_words : Text → ℕ → ℕ → List Text
question_words name kind class = name ∷ class_text class ∷ kind_text kind ∷ []

-- how the request ended: the status by its code and its name
abbrev pub status_words : Status → List Text
status_words status = codes "status" ∷ decimal (code_of status) ∷ text_of status ∷ []

-- the word of a flag that is set: the flag is the lowest of these bits
abbrev pub flag_word : ℕ → Text → List Text
flag_word bits word = if bits % 2 == 1 then word ∷ [] else []

-- the flags that are set, in the header's order (RFC 1035, section 4.1.1)
abbrev pub flag_words : ℕ → List Text
flag_words flags =
    flag_word (flags / 2 ^ 15) (codes "qr")
    ++ flag_word (flags / 2 ^ 10) (codes "aa")
    ++ flag_word (flags / 2 ^ 9) (codes "tc")
    ++ flag_word (flags / 2 ^ 8) (codes "rd")
    ++ flag_word (flags / 2 ^ 7) (codes "ra")

-- what an OPT record says, or nothing where it can't be read
abbrev pub opt_or_none : Result (Option Opt) EdnsFault → Option Opt
opt_or_none (Ok found) = found
opt_or_none (Err fault) = None

-- the response code of a message: the header's, and above it the OPT record's (RFC 6891, section 6.1.3)
abbrev pub full_code : Message → ℕ
full_code message = rcode_of message (opt_or_none (opt_of message))

-- a message's header: its identifier, its response code and its flags
abbrev pub header_words : Message → List Text
header_words message =
    codes "id" ∷ decimal message.id ∷ codes "rcode" ∷ decimal (full_code message) ∷ codes "flags" ∷ flag_words message.flags

-- a section that isn't empty: its heading, and the lines of its records in order
abbrev pub section : Text → List Record → Text
section heading [] = []
section heading (rr ∷ rrs) = note (heading ∷ []) ++ flat_map line_of (rr ∷ rrs)

-- a message: its header, and its sections
abbrev pub message_text : Message → Text
message_text message =
    note (header_words message)
    ++ section (codes "ANSWER") message.answers
    ++ section (codes "AUTHORITY") message.authorities
    ++ section (codes "ADDITIONAL") message.additionals

-- what is printed of a reply: nothing where there is none
abbrev pub text_or_none : Result Message MessageFault → Text
text_or_none (Ok message) = message_text message
text_or_none (Err fault) = []

-- the page of a request for this name, type and class: the question, the status, and the reply that ended the request, if one did
abbrev pub adig_page : Text → ℕ → ℕ → Answer → Text
adig_page name kind class answer =
    note (question_words name kind class)
    ++ note (status_words answer.status)
    ++ text_or_none (message_read answer.message)
