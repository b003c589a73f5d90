-- What a nameserver is asked by a message (RFC 1035, section 4.1; RFC 6891, section 6.1).
use Rattle.std.specs.Prelude.{ℕ, ◌/◌, ◌%◌, ◌^◌, ◌==◌, if◌then◌else◌, List, [], ◌∷◌, Option, Some, None, option_map, Result, Ok, Err}
use Rattle.std.specs.Option.{option_and_then}
use Rattle.std.specs.Result.{result_ok}
use Rattle.dns_message.specs.Reading.{message_read}
use Rattle.dns_message.specs.declared.message.Message.{Message}
use Rattle.dns_message.specs.declared.message.Question.{Question}
use Rattle.edns_opt.specs.declared.opt.Opt.{Opt}
use Rattle.edns_opt.specs.declared.fault.EdnsFault.{EdnsFault}
use Rattle.edns_opt.specs.Reading.{opt_of}
use Rattle.test_nameserver.specs.declared.query.Query.{Query}

-- the one question of some
abbrev pub only_question : List Question → Option Question
only_question [] = None
only_question (question ∷ []) = Some question
only_question (question ∷ other ∷ questions) = None

-- the largest datagram that the sender of an OPT record takes, where there is one
abbrev pub size_of : Option Opt → Option ℕ
size_of opt = option_map (λ found. found.size) opt

-- the query of a message with this OPT record
abbrev pub query_with : Message → Option Opt → Option Query
query_with message opt = option_map (λ question. record { id = message.id; flags = message.flags; question = question; size = size_of opt }) (only_question message.questions)

-- the query that a message is whose OPT record was read so
abbrev pub query_by : Message → Result (Option Opt) EdnsFault → Option Query
query_by message (Ok opt) = query_with message opt
query_by message (Err fault) = None

-- the query that a message is: it has the bit QR clear, one question, and an OPT record that can be read or none
abbrev pub query_in : Message → Option Query
query_in message = if message.flags / 2 ^ 15 % 2 == 1 then None else query_by message (opt_of message)

-- the query that bytes are
abbrev pub asked_by : List ℕ → Option Query
asked_by bytes = option_and_then query_in (result_ok (message_read bytes))
