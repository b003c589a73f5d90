-- A truncated reply comes over UDP: the same server is asked over TCP, and no attempt is spent.
use Rattle.std.specs.Prelude.{List, ◌∷◌, [], ◌≡◌, None, refl, Some, true, take}
use Rattle.chan_types.specs.declared.journal.Entry.{Entry}
use Rattle.chan_types.specs.declared.journal.What.TheVariants.{Start, Arrive, Take}
use Rattle.chan_types.specs.declared.status.Status.TheVariants.{Success, NoData}
use Rattle.resolv_options.specs.Defaults.{plain_values, plain_flags}
use Rattle.channel_model.specs.Journal.{past_of}
use Rattle.channel_model.specs.Legs.{leg_of}
use Rattle.channel_model.specs.Merge.{bare}
use Rattle.channel_model.specs.Past.{spent, closings}
use Rattle.channel_model.specs.Setting.{Setting}
use Rattle.channel_model.specs.Tests.{first_unlawful}
use Rattle.channel_examples.specs.Words.{channel_with, two_servers, journal_of, accepts, ask_x, reply_with_flags, good_reply, fate_in, instead, flights, cut_to, status_in}
use Rattle.dns_message.specs.NameText as NameText
use Rattle.dns_message.specs.Reading as Reading

abbrev pub setting : Setting
setting = channel_with (record plain_values { servers = two_servers })

abbrev pub journal : List Entry
journal = journal_of (
    accepts 1 ask_x
    ∷ Start 1 0 0 0 7 None 0
    ∷ Arrive 0 0 (reply_with_flags 7 0x8380)
    ∷ Start 1 0 0 1 8 None 1
    ∷ Arrive 0 1 (good_reply 8)
    ∷ Take 1
    ∷ [])

pub is_lawful : first_unlawful setting journal ≡ None
unfolding NameText.units_of Reading.message_read Reading.question_of Reading.record_of Reading.name_of Reading.run_of
is_lawful = refl

pub succeeds : fate_in setting journal 1 ≡ Some (bare 1 Success (good_reply 8))
unfolding NameText.units_of Reading.message_read Reading.question_of Reading.record_of Reading.name_of Reading.run_of
succeeds = refl

pub nothing_spent : spent (closings setting (leg_of 1 0) (past_of journal)) ≡ 0
unfolding NameText.units_of Reading.message_read Reading.question_of Reading.record_of Reading.name_of Reading.run_of
nothing_spent = refl

pub over_udp_again : first_unlawful setting (instead 3 (Start 1 0 0 0 8 None 1) journal) ≡ Some 3
unfolding NameText.units_of Reading.message_read Reading.question_of Reading.record_of Reading.name_of Reading.run_of
over_udp_again = refl

pub other_server : first_unlawful setting (instead 3 (Start 1 0 1 1 8 None 1) journal) ≡ Some 3
unfolding NameText.units_of Reading.message_read Reading.question_of Reading.record_of Reading.name_of Reading.run_of
other_server = refl

-- the first link over TCP has number 1
pub other_link : first_unlawful setting (instead 3 (Start 1 0 0 2 8 None 1) journal) ≡ Some 3
unfolding NameText.units_of Reading.message_read Reading.question_of Reading.record_of Reading.name_of Reading.run_of
other_link = refl

-- what comes over another link is no reply
pub reply_over_udp : flights setting (cut_to 4 (Arrive 0 0 (good_reply 8)) journal) ≡ 1
unfolding NameText.units_of Reading.message_read Reading.question_of Reading.record_of Reading.name_of Reading.run_of
reply_over_udp = refl

-- a truncated reply over TCP counts
pub truncated_over_tcp : status_in setting (instead 4 (Arrive 0 1 (reply_with_flags 8 0x8380)) journal) 1 ≡ Some NoData
unfolding NameText.units_of Reading.message_read Reading.question_of Reading.record_of Reading.name_of Reading.run_of
truncated_over_tcp = refl

-- with the flag `igntc` it counts over UDP too
pub ignored : status_in (channel_with (record plain_values { servers = two_servers; flags = record plain_flags { igntc = true } })) (take 3 journal) 1 ≡ Some NoData
unfolding NameText.units_of Reading.message_read Reading.question_of Reading.record_of Reading.name_of Reading.run_of
ignored = refl
