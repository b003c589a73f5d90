-- Single rules of replies, each by a reply or a journal that fails without it.
use Rattle.std.specs.Prelude.{List, ◌∷◌, [], ◌≡◌, None, refl, Some, ℕ, Option, option_map, take, length, true}
use Rattle.chan_types.specs.declared.journal.Entry.{Entry}
use Rattle.chan_types.specs.declared.journal.What.TheVariants.{Start, Arrive, Take}
use Rattle.chan_types.specs.declared.status.Status.TheVariants.{NotImp, Refused, Success}
use Rattle.dns_message.specs.Spelling.{message_bytes}
use Rattle.dns_message.specs.declared.message.Question.{Question}
use Rattle.resolv_options.specs.Defaults.{plain_values, plain_flags}
use Rattle.channel_model.specs.Journal.{past_of}
use Rattle.channel_model.specs.Legs.{leg_of}
use Rattle.dns_message.specs.Numbers.{kind_a}
use Rattle.channel_model.specs.Past.{leg_query}
use Rattle.channel_model.specs.Setting.{Setting}
use Rattle.channel_model.specs.Tests.{first_unlawful}
use Rattle.channel_examples.specs.AddressRules.{alias_of}
use Rattle.channel_examples.specs.Words.{channel_with, one_server, journal_of, accepts, ask_x, cut_to, instead, flying_behind, status_in, message, question, x_test, reply_with_flags}
use Rattle.dns_message.specs.NameText as NameText
use Rattle.dns_message.specs.Reading as Reading

abbrev pub setting : Setting
setting = channel_with (record plain_values { servers = one_server })

-- two attempts of a leg fail since the server doesn't answer the question, by NOTIMP and by REFUSED, and the third ends it
abbrev pub unanswered : List Entry
unanswered = journal_of (
    accepts 1 ask_x
    ∷ Start 1 0 0 0 7 None 0
    ∷ Arrive 0 0 (reply_with_flags 7 0x8184)
    ∷ Start 1 0 0 0 8 None 1
    ∷ Arrive 0 0 (reply_with_flags 8 0x8185)
    ∷ Start 1 0 0 0 9 None 2
    ∷ Arrive 0 0 (reply_with_flags 9 0x8184)
    ∷ Take 1
    ∷ [])

pub asked_again : first_unlawful setting unanswered ≡ None
unfolding NameText.units_of Reading.message_read Reading.question_of Reading.record_of Reading.name_of Reading.run_of
asked_again = refl

pub not_implemented : status_in setting unanswered 1 ≡ Some NotImp
unfolding NameText.units_of Reading.message_read Reading.question_of Reading.record_of Reading.name_of Reading.run_of
not_implemented = refl

pub refused : status_in setting (instead 6 (Arrive 0 0 (reply_with_flags 9 0x8185)) unanswered) 1 ≡ Some Refused
unfolding NameText.units_of Reading.message_read Reading.question_of Reading.record_of Reading.name_of Reading.run_of
refused = refl

-- a response code between SERVFAIL and NOTIMP ends the leg, which isn't asked again; and so does one behind REFUSED
pub no_such_name : first_unlawful setting (instead 2 (Arrive 0 0 (reply_with_flags 7 0x8183)) unanswered) ≡ Some 3
unfolding NameText.units_of Reading.message_read Reading.question_of Reading.record_of Reading.name_of Reading.run_of
no_such_name = refl

pub another_code : first_unlawful setting (instead 4 (Arrive 0 0 (reply_with_flags 8 0x8186)) unanswered) ≡ Some 5
unfolding NameText.units_of Reading.message_read Reading.question_of Reading.record_of Reading.name_of Reading.run_of
another_code = refl

-- the good reply, but for an answer, with these questions
abbrev pub reply_to_questions : List Question → List ℕ
reply_to_questions questions = message_bytes (record (message 7 0x8180 (question x_test kind_a) [] []) { questions = questions })

-- a reply to the question in class CH is none (RFC 1035, section 3.2.4)
pub other_class : flying_behind setting unanswered (reply_to_questions (record (question x_test kind_a) { class = 3 } ∷ [])) ≡ 1
unfolding NameText.units_of Reading.message_read Reading.question_of Reading.record_of Reading.name_of Reading.run_of
other_class = refl

pub same_class : flying_behind setting unanswered (reply_to_questions (question x_test kind_a ∷ [])) ≡ 0
unfolding NameText.units_of Reading.message_read Reading.question_of Reading.record_of Reading.name_of Reading.run_of
same_class = refl

-- nor is one without a question
pub no_question : flying_behind setting unanswered (reply_to_questions []) ≡ 1
unfolding NameText.units_of Reading.message_read Reading.question_of Reading.record_of Reading.name_of Reading.run_of
no_question = refl

-- nor are bytes that are no message: here the header of one, and no question behind it
pub no_message : flying_behind setting unanswered (take 12 (reply_to_questions (question x_test kind_a ∷ []))) ≡ 1
unfolding NameText.units_of Reading.message_read Reading.question_of Reading.record_of Reading.name_of Reading.run_of
no_message = refl

-- a query that isn't for addresses has its answer in records of whatever kind, as an alias
abbrev pub alias_alone : List ℕ
alias_alone = message_bytes (message 7 0x8180 (question x_test kind_a) (alias_of x_test ∷ []) [])

pub answer_of_another_kind : status_in setting (cut_to 2 (Arrive 0 0 alias_alone) unanswered) 1 ≡ Some Success
unfolding NameText.units_of Reading.message_read Reading.question_of Reading.record_of Reading.name_of Reading.run_of
answer_of_another_kind = refl

-- the reply that refuses the OPT record, and is truncated
abbrev pub truncated_refusal : ℕ → List ℕ
truncated_refusal id = message_bytes (message id 0x8381 (question x_test kind_a) [] [])

-- over UDP it has the question asked over TCP, with an OPT record as before; over TCP it has it asked without
abbrev pub truncated_twice : List Entry
truncated_twice = journal_of (
    accepts 1 ask_x
    ∷ Start 1 0 0 0 7 None 0
    ∷ Arrive 0 0 (truncated_refusal 7)
    ∷ Start 1 0 0 1 8 None 1
    ∷ Arrive 0 1 (truncated_refusal 8)
    ∷ Start 1 0 0 2 9 None 2
    ∷ [])

pub over_tcp : first_unlawful setting truncated_twice ≡ None
unfolding NameText.units_of Reading.message_read Reading.question_of Reading.record_of Reading.name_of Reading.run_of
over_tcp = refl

pub again_over_udp : first_unlawful setting (instead 3 (Start 1 0 0 0 8 None 1) truncated_twice) ≡ Some 3
unfolding NameText.units_of Reading.message_read Reading.question_of Reading.record_of Reading.name_of Reading.run_of
again_over_udp = refl

-- how many additional records the leg's query has behind so many of these entries
abbrev pub additionals_behind : ℕ → Option ℕ
additionals_behind count = option_map (λ query. length query.additionals) (leg_query setting (leg_of 1 0) 8 None (past_of (take count truncated_twice)))

pub with_opt : additionals_behind 3 ≡ Some 1
unfolding NameText.units_of Reading.message_read Reading.question_of Reading.record_of Reading.name_of Reading.run_of
with_opt = refl

pub without_opt : additionals_behind 5 ≡ Some 0
unfolding NameText.units_of Reading.message_read Reading.question_of Reading.record_of Reading.name_of Reading.run_of
without_opt = refl

-- where truncation is ignored, the refusal counts over UDP too
abbrev pub ignoring : Setting
ignoring = channel_with (record plain_values { servers = one_server; flags = record plain_flags { igntc = true } })

pub not_over_tcp : first_unlawful ignoring truncated_twice ≡ Some 3
unfolding NameText.units_of Reading.message_read Reading.question_of Reading.record_of Reading.name_of Reading.run_of
not_over_tcp = refl

pub without_opt_over_udp : first_unlawful ignoring (instead 3 (Start 1 0 0 0 8 None 1) (take 4 truncated_twice)) ≡ None
unfolding NameText.units_of Reading.message_read Reading.question_of Reading.record_of Reading.name_of Reading.run_of
without_opt_over_udp = refl
