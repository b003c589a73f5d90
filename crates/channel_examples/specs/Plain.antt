-- A server refuses the OPT record: the same server is asked without one, and no attempt is spent.
use Rattle.std.specs.Prelude.{List, ℕ, ◌∷◌, [], ◌≡◌, None, refl, Some, option_map, take}
use Rattle.chan_types.specs.declared.journal.Entry.{Entry}
use Rattle.chan_types.specs.declared.journal.What.TheVariants.{Start, Arrive, Take}
use Rattle.chan_types.specs.declared.status.Status.TheVariants.{Success, FormErr}
use Rattle.dns_message.specs.Spelling.{message_bytes}
use Rattle.resolv_options.specs.Defaults.{plain_values}
use Rattle.channel_model.specs.Journal.{past_of}
use Rattle.channel_model.specs.Legs.{leg_of}
use Rattle.channel_model.specs.Merge.{bare}
use Rattle.dns_message.specs.Numbers.{kind_a}
use Rattle.channel_model.specs.Past.{spent, closings, leg_query}
use Rattle.channel_model.specs.Setting.{Setting}
use Rattle.channel_model.specs.Tests.{first_unlawful}
use Rattle.channel_examples.specs.Words.{channel_with, two_servers, message, question, x_test, answer, journal_of, accepts, ask_x, fate_in, instead, status_in, reply_with_flags}
use Rattle.dns_message.specs.NameText as NameText
use Rattle.dns_message.specs.Reading as Reading

abbrev pub setting : Setting
setting = channel_with (record plain_values { servers = two_servers })

-- a good reply without an OPT record
abbrev pub plain_reply : List ℕ
plain_reply = message_bytes (message 8 0x8180 (question x_test kind_a) (answer x_test kind_a (192 ∷ 0 ∷ 2 ∷ 1 ∷ []) ∷ []) [])

abbrev pub journal : List Entry
journal = journal_of (
    accepts 1 ask_x
    ∷ Start 1 0 0 0 7 None 0
    ∷ Arrive 0 0 (message_bytes (message 7 0x8181 (question x_test kind_a) [] []))
    ∷ Start 1 0 0 0 8 None 1
    ∷ Arrive 0 0 plain_reply
    ∷ Take 1
    ∷ [])

pub is_lawful : first_unlawful setting journal ≡ None
unfolding NameText.units_of Reading.message_read Reading.question_of Reading.record_of Reading.name_of Reading.run_of
is_lawful = refl

pub succeeds : fate_in setting journal 1 ≡ Some (bare 1 Success plain_reply)
unfolding NameText.units_of Reading.message_read Reading.question_of Reading.record_of Reading.name_of Reading.run_of
succeeds = refl

pub nothing_spent : spent (closings setting (leg_of 1 0) (past_of journal)) ≡ 0
unfolding NameText.units_of Reading.message_read Reading.question_of Reading.record_of Reading.name_of Reading.run_of
nothing_spent = refl

-- the first query as it is sent: the header, the question, and an OPT record that offers 1232 bytes
pub first_query : option_map message_bytes (leg_query setting (leg_of 1 0) 7 None (past_of (take 1 journal))) ≡ Some (
    0 ∷ 7 ∷ 1 ∷ 0 ∷ 0 ∷ 1 ∷ 0 ∷ 0 ∷ 0 ∷ 0 ∷ 0 ∷ 1
    ∷ 1 ∷ 120 ∷ 4 ∷ 116 ∷ 101 ∷ 115 ∷ 116 ∷ 0 ∷ 0 ∷ 1 ∷ 0 ∷ 1
    ∷ 0 ∷ 0 ∷ 41 ∷ 4 ∷ 208 ∷ 0 ∷ 0 ∷ 0 ∷ 0 ∷ 0 ∷ 0 ∷ [])
unfolding NameText.units_of Reading.message_read Reading.question_of Reading.record_of Reading.name_of Reading.run_of
first_query = refl

-- the second one without it
pub second_query : option_map message_bytes (leg_query setting (leg_of 1 0) 8 None (past_of (take 3 journal))) ≡ Some (
    0 ∷ 8 ∷ 1 ∷ 0 ∷ 0 ∷ 1 ∷ 0 ∷ 0 ∷ 0 ∷ 0 ∷ 0 ∷ 0
    ∷ 1 ∷ 120 ∷ 4 ∷ 116 ∷ 101 ∷ 115 ∷ 116 ∷ 0 ∷ 0 ∷ 1 ∷ 0 ∷ 1 ∷ [])
unfolding NameText.units_of Reading.message_read Reading.question_of Reading.record_of Reading.name_of Reading.run_of
second_query = refl

pub other_server : first_unlawful setting (instead 3 (Start 1 0 1 0 8 None 1) journal) ≡ Some 3
unfolding NameText.units_of Reading.message_read Reading.question_of Reading.record_of Reading.name_of Reading.run_of
other_server = refl

-- with an OPT record in the reply it is the leg's end
pub refused_with_opt : status_in setting (instead 2 (Arrive 0 0 (reply_with_flags 7 0x8181)) (take 3 journal)) 1 ≡ Some FormErr
unfolding NameText.units_of Reading.message_read Reading.question_of Reading.record_of Reading.name_of Reading.run_of
refused_with_opt = refl
