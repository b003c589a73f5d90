-- Two servers: the first can't answer, and the other one is asked at once.
use Rattle.std.specs.Prelude.{List, ◌∷◌, [], ◌≡◌, None, refl, Some, take, true}
use Rattle.chan_types.specs.declared.journal.Entry.{Entry}
use Rattle.chan_types.specs.declared.journal.What.TheVariants.{Start, Arrive, Take, Expire}
use Rattle.chan_types.specs.declared.status.Status.TheVariants.{Success, ServFail}
use Rattle.resolv_options.specs.Defaults.{plain_values, plain_flags}
use Rattle.channel_model.specs.Journal.{past_of}
use Rattle.channel_model.specs.Lawful.{first_due}
use Rattle.channel_model.specs.Legs.{leg_of}
use Rattle.channel_model.specs.Setting.{Setting}
use Rattle.channel_model.specs.Tests.{first_unlawful}
use Rattle.channel_examples.specs.Words.{channel_with, two_servers, journal_of, accepts, ask_x, reply_with_flags, good_reply, status_in, instead}
use Rattle.dns_message.specs.NameText as NameText
use Rattle.dns_message.specs.Reading as Reading

abbrev pub setting : Setting
setting = channel_with (record plain_values { servers = two_servers })

abbrev pub journal : List Entry
journal = journal_of (
    accepts 1 ask_x
    ∷ Start 1 0 0 0 7 None 0
    ∷ Arrive 0 0 (reply_with_flags 7 0x8182)
    ∷ Start 1 0 1 0 8 None 1
    ∷ Arrive 1 0 (good_reply 8)
    ∷ Take 1
    ∷ [])

pub is_lawful : first_unlawful setting journal ≡ None
unfolding NameText.units_of Reading.message_read Reading.question_of Reading.record_of Reading.name_of Reading.run_of
is_lawful = refl

pub succeeds : status_in setting journal 1 ≡ Some Success
unfolding NameText.units_of Reading.message_read Reading.question_of Reading.record_of Reading.name_of Reading.run_of
succeeds = refl

-- the second attempt is due a timeout behind its own moment
pub due : first_due setting (past_of (take 4 journal)) ≡ Some (record { at = 2001; leg = leg_of 1 0 })
unfolding NameText.units_of Reading.message_read Reading.question_of Reading.record_of Reading.name_of Reading.run_of
due = refl

pub early_expire : first_unlawful setting (instead 4 (Expire 1 0 2000) journal) ≡ Some 4
unfolding NameText.units_of Reading.message_read Reading.question_of Reading.record_of Reading.name_of Reading.run_of
early_expire = refl

pub same_server : first_unlawful setting (instead 3 (Start 1 0 0 0 8 None 1) journal) ≡ Some 3
unfolding NameText.units_of Reading.message_read Reading.question_of Reading.record_of Reading.name_of Reading.run_of
same_server = refl

-- with the flag `nocheckresp` it is the leg's end
pub not_checked : status_in (channel_with (record plain_values { servers = two_servers; flags = record plain_flags { nocheckresp = true } })) (take 3 journal) 1 ≡ Some ServFail
unfolding NameText.units_of Reading.message_read Reading.question_of Reading.record_of Reading.name_of Reading.run_of
not_checked = refl
