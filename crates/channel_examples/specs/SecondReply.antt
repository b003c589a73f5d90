-- The right reply comes twice: the first ends the leg, the second is passed over.
use Rattle.std.specs.Prelude.{List, ◌∷◌, [], ◌≡◌, None, refl, take, Some}
use Rattle.chan_types.specs.declared.journal.Entry.{Entry}
use Rattle.chan_types.specs.declared.journal.What.TheVariants.{Start, Arrive, Take, Expire, Cancel}
use Rattle.chan_types.specs.declared.status.Status.TheVariants.{Success}
use Rattle.resolv_options.specs.Defaults.{plain_values}
use Rattle.channel_model.specs.Merge.{bare}
use Rattle.channel_model.specs.Setting.{Setting}
use Rattle.channel_model.specs.Tests.{first_unlawful}
use Rattle.channel_examples.specs.Words.{channel_with, one_server, journal_of, accepts, ask_x, good_reply, fate_in, instead}
use Rattle.dns_message.specs.NameText as NameText
use Rattle.dns_message.specs.Reading as Reading

abbrev pub setting : Setting
setting = channel_with (record plain_values { servers = one_server })

abbrev pub journal : List Entry
journal = journal_of (
    accepts 1 ask_x
    ∷ Start 1 0 0 0 7 None 0
    ∷ Arrive 0 0 (good_reply 7)
    ∷ Arrive 0 0 (good_reply 7)
    ∷ Take 1
    ∷ [])

pub is_lawful : first_unlawful setting journal ≡ None
unfolding NameText.units_of Reading.message_read Reading.question_of Reading.record_of Reading.name_of Reading.run_of
is_lawful = refl

-- the request has completed with the reply's bytes behind the first, and the second changes nothing
pub completes_once : fate_in setting (take 3 journal) 1 ≡ Some (bare 1 Success (good_reply 7))
unfolding NameText.units_of Reading.message_read Reading.question_of Reading.record_of Reading.name_of Reading.run_of
completes_once = refl

pub stays_so : fate_in setting journal 1 ≡ fate_in setting (take 3 journal) 1
unfolding NameText.units_of Reading.message_read Reading.question_of Reading.record_of Reading.name_of Reading.run_of
stays_so = refl

-- before a reply there is nothing to take
pub early_take : first_unlawful setting (instead 2 (Take 1) journal) ≡ Some 2
unfolding NameText.units_of Reading.message_read Reading.question_of Reading.record_of Reading.name_of Reading.run_of
early_take = refl

-- a leg that has ended doesn't expire, and isn't started
pub late_expire : first_unlawful setting (instead 3 (Expire 1 0 2000) journal) ≡ Some 3
unfolding NameText.units_of Reading.message_read Reading.question_of Reading.record_of Reading.name_of Reading.run_of
late_expire = refl

pub late_start : first_unlawful setting (instead 3 (Start 1 0 0 0 8 None 1) journal) ≡ Some 3
unfolding NameText.units_of Reading.message_read Reading.question_of Reading.record_of Reading.name_of Reading.run_of
late_start = refl

-- nothing is pending that could be cancelled
pub late_cancel : first_unlawful setting (instead 3 Cancel journal) ≡ Some 3
unfolding NameText.units_of Reading.message_read Reading.question_of Reading.record_of Reading.name_of Reading.run_of
late_cancel = refl
