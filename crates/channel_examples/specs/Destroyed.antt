-- The callback of the first request destroys the channel: the others complete, and nothing is accepted any more.
use Rattle.std.specs.Prelude.{List, ◌∷◌, [], ◌≡◌, None, refl, map, Some}
use Rattle.chan_types.specs.declared.journal.Entry.{Entry}
use Rattle.chan_types.specs.declared.journal.What.TheVariants.{Start, Arrive, Take, Destroy, Cancel}
use Rattle.chan_types.specs.declared.status.Status.TheVariants.{Success, Destruction}
use Rattle.resolv_options.specs.Defaults.{plain_values}
use Rattle.channel_model.specs.Setting.{Setting}
use Rattle.channel_model.specs.Tests.{first_unlawful}
use Rattle.channel_examples.specs.Words.{channel_with, one_server, journal_of, accepts, ask_x, good_reply, status_in, cut_to}
use Rattle.dns_message.specs.NameText as NameText
use Rattle.dns_message.specs.Reading as Reading

abbrev pub setting : Setting
setting = channel_with (record plain_values { servers = one_server })

abbrev pub journal : List Entry
journal = journal_of (
    accepts 1 ask_x
    ∷ accepts 2 ask_x
    ∷ accepts 3 ask_x
    ∷ Start 1 0 0 0 7 None 0
    ∷ Arrive 0 0 (good_reply 7)
    ∷ Take 1
    ∷ Destroy
    ∷ Take 2
    ∷ Take 3
    ∷ [])

pub is_lawful : first_unlawful setting journal ≡ None
unfolding NameText.units_of Reading.message_read Reading.question_of Reading.record_of Reading.name_of Reading.run_of
is_lawful = refl

pub statuses : map (status_in setting journal) (1 ∷ 2 ∷ 3 ∷ []) ≡ Some Success ∷ Some Destruction ∷ Some Destruction ∷ []
unfolding NameText.units_of Reading.message_read Reading.question_of Reading.record_of Reading.name_of Reading.run_of
statuses = refl

pub accept_behind_destroy : first_unlawful setting (cut_to 7 (accepts 4 ask_x) journal) ≡ Some 7
unfolding NameText.units_of Reading.message_read Reading.question_of Reading.record_of Reading.name_of Reading.run_of
accept_behind_destroy = refl

pub second_destroy : first_unlawful setting (cut_to 7 Destroy journal) ≡ Some 7
unfolding NameText.units_of Reading.message_read Reading.question_of Reading.record_of Reading.name_of Reading.run_of
second_destroy = refl

pub cancel_behind_destroy : first_unlawful setting (cut_to 7 Cancel journal) ≡ Some 7
unfolding NameText.units_of Reading.message_read Reading.question_of Reading.record_of Reading.name_of Reading.run_of
cancel_behind_destroy = refl

pub start_behind_destroy : first_unlawful setting (cut_to 7 (Start 2 0 0 0 8 None 0) journal) ≡ Some 7
unfolding NameText.units_of Reading.message_read Reading.question_of Reading.record_of Reading.name_of Reading.run_of
start_behind_destroy = refl
