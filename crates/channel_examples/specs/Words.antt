-- Words for worked journals: settings, entries, replies, and what is asked of a journal.
use Rattle.std.specs.Prelude.{List, ◌∷◌, [], map, ℕ, slice_set, take, ◌++◌, Option, option_map, length, codes}
use Rattle.chan_types.specs.Plans.{blank}
use Rattle.chan_types.specs.declared.answer.Answer.{Answer}
use Rattle.chan_types.specs.declared.journal.Entry.{Entry}
use Rattle.chan_types.specs.declared.journal.What.{What}
use Rattle.chan_types.specs.declared.journal.What.TheVariants.{Accept, Arrive}
use Rattle.chan_types.specs.declared.spec.Spec.{Spec}
use Rattle.chan_types.specs.declared.spec.Spec.TheVariants.{Query}
use Rattle.chan_types.specs.declared.status.Status.{Status}
use Rattle.dns_message.specs.Spelling.{message_bytes}
use Rattle.dns_message.specs.declared.message.Message.{Message}
use Rattle.dns_message.specs.declared.message.Question.{Question}
use Rattle.dns_message.specs.declared.message.Record.{Record}
use Rattle.dns_message.specs.declared.name.Name.{Name}
use Rattle.net_addr.specs.declared.addr.Addr.TheVariants.{V4}
use Rattle.net_addr.specs.declared.addr.ServerAddr.{ServerAddr}
use Rattle.resolv_options.specs.declared.options.Options.{Options}
use Rattle.channel_model.specs.Completion.{fate}
use Rattle.channel_model.specs.Flight.{in_flight, answers}
use Rattle.channel_model.specs.Journal.{past_of}
use Rattle.dns_message.specs.Numbers.{kind_a, class_in}
use Rattle.channel_model.specs.Setting.{Setting}

-- servers at 192.0.2.53 and 192.0.2.54
abbrev pub one_server : List ServerAddr
one_server = record { address = V4 3221226037; port = 53 } ∷ []

abbrev pub two_servers : List ServerAddr
two_servers = record { address = V4 3221226037; port = 53 } ∷ record { address = V4 3221226038; port = 53 } ∷ []

-- a channel with these options and an empty hosts file
abbrev pub channel_with : Options → Setting
channel_with options = record { options = options; hosts = [] }

-- the journal in which this happened, all of it by seat 0 and on nobody's command
abbrev pub journal_of : List What → List Entry
journal_of whats = map (λ what. record { seat = 0; by = 0; what = what }) whats

-- a request is accepted whose callback gives no command
abbrev pub accepts : ℕ → Spec → What
accepts number spec = Accept number spec (blank 0)

-- the journal with this in the place of what happened at a position
abbrev pub instead : ℕ → What → List Entry → List Entry
instead k what journal = slice_set journal k (record { seat = 0; by = 0; what = what })

-- the journal up to a position, and then this
abbrev pub cut_to : ℕ → What → List Entry → List Entry
cut_to k what journal = take k journal ++ record { seat = 0; by = 0; what = what } ∷ []

-- the status of a request in a journal, if it has completed
abbrev pub status_in : Setting → List Entry → ℕ → Option Status
status_in setting journal request = option_map (λ answer. answer.status) (fate setting request (past_of journal))

-- the answer of a request in a journal, if it has completed
abbrev pub fate_in : Setting → List Entry → ℕ → Option Answer
fate_in setting journal request = fate setting request (past_of journal)

-- how many attempts are in flight behind a journal
abbrev pub flights : Setting → List Entry → ℕ
flights setting journal = length (in_flight setting (past_of journal))

-- how many attempts are in flight behind a journal's first Start, where then these bytes come from server 0 over link 0
abbrev pub flying_behind : Setting → List Entry → List ℕ → ℕ
flying_behind setting journal bytes = flights setting (cut_to 2 (Arrive 0 0 bytes) journal)

-- the name x.test
abbrev pub x_test : Name
x_test = codes "x" ∷ codes "test" ∷ []

-- the request for its IPv4 addresses
abbrev pub ask_x : Spec
ask_x = Query (codes "x.test.") kind_a class_in

-- a question in the Internet class
abbrev pub question : Name → ℕ → Question
question name kind = record { name = name; kind = kind; class = class_in }

-- a record in the Internet class that may be kept for a minute
abbrev pub answer : Name → ℕ → List ℕ → Record
answer name kind rdata = record { name = name; kind = kind; class = class_in; ttl = 60; rdata = rdata }

-- a message with this identifier, these flags, this question, these answers and these additional records
abbrev pub message : ℕ → ℕ → Question → List Record → List Record → Message
message id flags asked answers additionals =
    record { id = id; flags = flags; questions = asked ∷ []; answers = answers; authorities = []; additionals = additionals }

-- the OPT record of a reply
abbrev pub opt_of_reply : Record
opt_of_reply = record { name = []; kind = 41; class = 1232; ttl = 0; rdata = [] }

-- the good reply to a question for x.test, with the address 192.0.2.1 and an OPT record
abbrev pub good_reply : ℕ → List ℕ
good_reply id = message_bytes (message id 0x8180 (question x_test kind_a) (answer x_test kind_a (192 ∷ 0 ∷ 2 ∷ 1 ∷ []) ∷ []) (opt_of_reply ∷ []))

-- the reply to that question without an answer, with these flags and an OPT record
abbrev pub reply_with_flags : ℕ → ℕ → List ℕ
reply_with_flags id flags = message_bytes (message id flags (question x_test kind_a) [] (opt_of_reply ∷ []))
