-- Three requests are cancelled; the first one's callback asks another, which the cancel doesn't touch.
use Rattle.std.specs.Prelude.{List, ◌∷◌, [], ◌≡◌, None, refl, take, map, Some}
use Rattle.chan_types.specs.declared.journal.Entry.{Entry}
use Rattle.chan_types.specs.declared.journal.What.TheVariants.{Start, Cancel, Take, Arrive, Expire}
use Rattle.chan_types.specs.declared.status.Status.TheVariants.{Cancelled, Success}
use Rattle.resolv_options.specs.Defaults.{plain_values}
use Rattle.channel_model.specs.Completion.{pending, ready}
use Rattle.channel_model.specs.Journal.{past_of}
use Rattle.channel_model.specs.Setting.{Setting}
use Rattle.channel_model.specs.Tests.{first_unlawful}
use Rattle.channel_examples.specs.Words.{channel_with, one_server, journal_of, accepts, ask_x, good_reply, status_in, flights, instead}
use Rattle.dns_message.specs.NameText as NameText
use Rattle.dns_message.specs.Reading as Reading

abbrev pub setting : Setting
setting = channel_with (record plain_values { servers = one_server })

abbrev pub journal : List Entry
journal = journal_of (
    accepts 1 ask_x
    ∷ accepts 2 ask_x
    ∷ accepts 3 ask_x
    ∷ Start 1 0 0 0 7 None 0
    ∷ Cancel
    ∷ Take 1
    ∷ accepts 4 ask_x
    ∷ Take 2
    ∷ Take 3
    ∷ Start 4 0 0 0 7 None 1
    ∷ Arrive 0 0 (good_reply 7)
    ∷ Take 4
    ∷ [])

pub is_lawful : first_unlawful setting journal ≡ None
unfolding NameText.units_of Reading.message_read Reading.question_of Reading.record_of Reading.name_of Reading.run_of
is_lawful = refl

-- three were pending, and they are the ready ones then
pub three_pending : pending setting (past_of (take 4 journal)) ≡ 1 ∷ 2 ∷ 3 ∷ []
unfolding NameText.units_of Reading.message_read Reading.question_of Reading.record_of Reading.name_of Reading.run_of
three_pending = refl

pub three_ready : ready setting (past_of (take 5 journal)) ≡ 1 ∷ 2 ∷ 3 ∷ []
unfolding NameText.units_of Reading.message_read Reading.question_of Reading.record_of Reading.name_of Reading.run_of
three_ready = refl

pub statuses : map (status_in setting journal) (1 ∷ 2 ∷ 3 ∷ 4 ∷ []) ≡ Some Cancelled ∷ Some Cancelled ∷ Some Cancelled ∷ Some Success ∷ []
unfolding NameText.units_of Reading.message_read Reading.question_of Reading.record_of Reading.name_of Reading.run_of
statuses = refl

-- the request of the callback stays pending
pub fourth_pending : pending setting (past_of (take 9 journal)) ≡ 4 ∷ []
unfolding NameText.units_of Reading.message_read Reading.question_of Reading.record_of Reading.name_of Reading.run_of
fourth_pending = refl

-- what was in flight isn't any more: its reply is passed over, and it doesn't expire
pub nothing_flies : flights setting (take 5 journal) ≡ 0
unfolding NameText.units_of Reading.message_read Reading.question_of Reading.record_of Reading.name_of Reading.run_of
nothing_flies = refl

pub late_expire : first_unlawful setting (instead 5 (Expire 1 0 2000) journal) ≡ Some 5
unfolding NameText.units_of Reading.message_read Reading.question_of Reading.record_of Reading.name_of Reading.run_of
late_expire = refl

pub second_cancel : first_unlawful setting (instead 5 Cancel journal) ≡ Some 5
unfolding NameText.units_of Reading.message_read Reading.question_of Reading.record_of Reading.name_of Reading.run_of
second_cancel = refl

pub take_out_of_order : first_unlawful setting (instead 5 (Take 2) journal) ≡ Some 5
unfolding NameText.units_of Reading.message_read Reading.question_of Reading.record_of Reading.name_of Reading.run_of
take_out_of_order = refl
