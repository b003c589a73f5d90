-- One server and one try: a reply that is received at the moment of the deadline, before the leg expires, counts.
use Rattle.std.specs.Prelude.{List, ◌∷◌, [], ◌≡◌, None, refl, Some, take}
use Rattle.chan_types.specs.declared.journal.Entry.{Entry}
use Rattle.chan_types.specs.declared.journal.What.TheVariants.{Start, Arrive, Take, Expire}
use Rattle.chan_types.specs.declared.status.Status.TheVariants.{Success, TimedOut}
use Rattle.resolv_options.specs.Defaults.{plain_values}
use Rattle.channel_model.specs.Journal.{past_of}
use Rattle.channel_model.specs.Lawful.{first_due}
use Rattle.channel_model.specs.Legs.{leg_of}
use Rattle.channel_model.specs.Setting.{Setting}
use Rattle.channel_model.specs.Tests.{first_unlawful}
use Rattle.channel_examples.specs.Words.{channel_with, one_server, journal_of, accepts, ask_x, good_reply, status_in, instead}
use Rattle.dns_message.specs.NameText as NameText
use Rattle.dns_message.specs.Reading as Reading

abbrev pub setting : Setting
setting = channel_with (record plain_values { servers = one_server; tries = 1 })

abbrev pub journal : List Entry
journal = journal_of (
    accepts 1 ask_x
    ∷ Start 1 0 0 0 7 None 0
    ∷ Arrive 0 0 (good_reply 7)
    ∷ Take 1
    ∷ [])

pub is_lawful : first_unlawful setting journal ≡ None
unfolding NameText.units_of Reading.message_read Reading.question_of Reading.record_of Reading.name_of Reading.run_of
is_lawful = refl

pub succeeds : status_in setting journal 1 ≡ Some Success
unfolding NameText.units_of Reading.message_read Reading.question_of Reading.record_of Reading.name_of Reading.run_of
succeeds = refl

-- the leg was due at 2000
pub due : first_due setting (past_of (take 2 journal)) ≡ Some (record { at = 2000; leg = leg_of 1 0 })
unfolding NameText.units_of Reading.message_read Reading.question_of Reading.record_of Reading.name_of Reading.run_of
due = refl

-- then it isn't in flight, so it doesn't expire
pub late_expire : first_unlawful setting (instead 3 (Expire 1 0 2000) journal) ≡ Some 3
unfolding NameText.units_of Reading.message_read Reading.question_of Reading.record_of Reading.name_of Reading.run_of
late_expire = refl

-- had it expired first, the request would have timed out, and the reply would be passed over
pub other_order : status_in setting (journal_of (accepts 1 ask_x ∷ Start 1 0 0 0 7 None 0 ∷ Expire 1 0 2000 ∷ Arrive 0 0 (good_reply 7) ∷ [])) 1 ≡ Some TimedOut
unfolding NameText.units_of Reading.message_read Reading.question_of Reading.record_of Reading.name_of Reading.run_of
other_order = refl
