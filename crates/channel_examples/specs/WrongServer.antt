-- Two servers: the right reply comes from the server that wasn't asked, and is passed over; the leg expires, and the other server is asked.
use Rattle.std.specs.Prelude.{List, ◌∷◌, [], ◌≡◌, None, refl, codes, Some}
use Rattle.chan_types.specs.declared.journal.Entry.{Entry}
use Rattle.chan_types.specs.declared.journal.What.TheVariants.{Start, Arrive, Expire}
use Rattle.dns_message.specs.Spelling.{message_bytes}
use Rattle.resolv_options.specs.Defaults.{plain_values}
use Rattle.channel_model.specs.Completion.{pending}
use Rattle.channel_model.specs.Journal.{past_of}
use Rattle.dns_message.specs.Numbers.{kind_aaaa, kind_a}
use Rattle.channel_model.specs.Setting.{Setting}
use Rattle.channel_model.specs.Tests.{first_unlawful}
use Rattle.channel_examples.specs.Words.{channel_with, two_servers, journal_of, accepts, ask_x, good_reply, flying_behind, message, question, x_test, opt_of_reply, instead}
use Rattle.dns_message.specs.NameText as NameText
use Rattle.dns_message.specs.Reading as Reading

abbrev pub setting : Setting
setting = channel_with (record plain_values { servers = two_servers })

abbrev pub journal : List Entry
journal = journal_of (
    accepts 1 ask_x
    ∷ Start 1 0 0 0 7 None 0
    ∷ Arrive 1 0 (good_reply 7)
    ∷ Expire 1 0 2000
    ∷ Start 1 0 1 0 8 None 2000
    ∷ [])

pub is_lawful : first_unlawful setting journal ≡ None
unfolding NameText.units_of Reading.message_read Reading.question_of Reading.record_of Reading.name_of Reading.run_of
is_lawful = refl

pub is_pending : pending setting (past_of journal) ≡ 1 ∷ []
unfolding NameText.units_of Reading.message_read Reading.question_of Reading.record_of Reading.name_of Reading.run_of
is_pending = refl

-- a reply with another identifier, to another question, with its flag QR unset, or to another kind of query is passed over too
pub other_identifier : flying_behind setting journal (good_reply 6) ≡ 1
unfolding NameText.units_of Reading.message_read Reading.question_of Reading.record_of Reading.name_of Reading.run_of
other_identifier = refl

pub other_question : flying_behind setting journal (message_bytes (message 7 0x8180 (question x_test kind_aaaa) [] [])) ≡ 1
unfolding NameText.units_of Reading.message_read Reading.question_of Reading.record_of Reading.name_of Reading.run_of
other_question = refl

pub no_response : flying_behind setting journal (message_bytes (message 7 0x0180 (question x_test kind_a) [] [])) ≡ 1
unfolding NameText.units_of Reading.message_read Reading.question_of Reading.record_of Reading.name_of Reading.run_of
no_response = refl

pub other_opcode : flying_behind setting journal (message_bytes (message 7 0x8980 (question x_test kind_a) [] [])) ≡ 1
unfolding NameText.units_of Reading.message_read Reading.question_of Reading.record_of Reading.name_of Reading.run_of
other_opcode = refl

pub two_opts : flying_behind setting journal (message_bytes (message 7 0x8180 (question x_test kind_a) [] (opt_of_reply ∷ opt_of_reply ∷ []))) ≡ 1
unfolding NameText.units_of Reading.message_read Reading.question_of Reading.record_of Reading.name_of Reading.run_of
two_opts = refl

-- the case of letters doesn't matter
pub other_case : flying_behind setting journal (message_bytes (message 7 0x8180 (question (codes "X" ∷ codes "tesT" ∷ []) kind_a) [] [])) ≡ 0
unfolding NameText.units_of Reading.message_read Reading.question_of Reading.record_of Reading.name_of Reading.run_of
other_case = refl

pub right_one : flying_behind setting journal (good_reply 7) ≡ 0
unfolding NameText.units_of Reading.message_read Reading.question_of Reading.record_of Reading.name_of Reading.run_of
right_one = refl

-- the next attempt doesn't go to the server that failed
pub same_server : first_unlawful setting (instead 4 (Start 1 0 0 0 8 None 2000) journal) ≡ Some 4
unfolding NameText.units_of Reading.message_read Reading.question_of Reading.record_of Reading.name_of Reading.run_of
same_server = refl
