-- Legs that are due at one moment expire by their requests, then by their numbers; requests are ready by the entry that completed them, then by their numbers.
use Rattle.std.specs.Prelude.{List, codes, true, ◌∷◌, [], ◌≡◌, None, refl, Some}
use Rattle.chan_types.specs.declared.journal.Entry.{Entry}
use Rattle.chan_types.specs.declared.journal.What.TheVariants.{Start, Expire, Destroy, Arrive}
use Rattle.chan_types.specs.declared.spec.Spec.TheVariants.{Address}
use Rattle.net_addr.specs.declared.addr.Family.{Family}
use Rattle.resolv_options.specs.Defaults.{plain_values}
use Rattle.channel_model.specs.Completion.{waiting, ready}
use Rattle.channel_model.specs.Journal.{past_of}
use Rattle.channel_model.specs.Legs.{leg_of}
use Rattle.channel_model.specs.Setting.{Setting}
use Rattle.channel_model.specs.Tests.{first_unlawful}
use Rattle.channel_examples.specs.Words.{channel_with, one_server, journal_of, accepts, ask_x, instead, cut_to, good_reply}
use Rattle.dns_message.specs.NameText as NameText
use Rattle.dns_message.specs.Reading as Reading
use Rattle.net_addr.specs.Reading as AddrReading
use Rattle.std.specs.Net.Reader as Reader
use Rattle.net_addr.specs.Prefix as Prefix

abbrev pub setting : Setting
setting = channel_with (record plain_values { servers = one_server })

abbrev pub journal : List Entry
journal = journal_of (
    accepts 1 (Address (codes "www.example.test.") Family.Any true)
    ∷ accepts 2 ask_x
    ∷ accepts 3 ask_x
    ∷ Start 1 0 0 0 7 None 0
    ∷ Start 1 1 0 0 8 None 0
    ∷ Start 2 0 0 0 9 None 0
    ∷ Expire 1 0 2000
    ∷ Expire 1 1 2000
    ∷ Expire 2 0 2000
    ∷ [])

pub is_lawful : first_unlawful setting journal ≡ None
unfolding NameText.units_of Reading.message_read Reading.question_of Reading.record_of Reading.name_of Reading.run_of AddrReading.address_of Reader.read_ipv4 Reader.read_octet Reader.read_number Reader.read_ipv6 Reader.read_segments Reader.read_segment Prefix.common_prefix
is_lawful = refl

pub second_leg_first : first_unlawful setting (instead 6 (Expire 1 1 2000) journal) ≡ Some 6
unfolding NameText.units_of Reading.message_read Reading.question_of Reading.record_of Reading.name_of Reading.run_of AddrReading.address_of Reader.read_ipv4 Reader.read_octet Reader.read_number Reader.read_ipv6 Reader.read_segments Reader.read_segment Prefix.common_prefix
second_leg_first = refl

pub second_request_first : first_unlawful setting (instead 6 (Expire 2 0 2000) journal) ≡ Some 6
unfolding NameText.units_of Reading.message_read Reading.question_of Reading.record_of Reading.name_of Reading.run_of AddrReading.address_of Reader.read_ipv4 Reader.read_octet Reader.read_number Reader.read_ipv6 Reader.read_segments Reader.read_segment Prefix.common_prefix
second_request_first = refl

-- legs wait in the same order, also those that wait again
pub waiting_again : waiting setting (past_of journal) ≡ leg_of 1 0 ∷ leg_of 1 1 ∷ leg_of 2 0 ∷ leg_of 3 0 ∷ []
unfolding NameText.units_of Reading.message_read Reading.question_of Reading.record_of Reading.name_of Reading.run_of AddrReading.address_of Reader.read_ipv4 Reader.read_octet Reader.read_number Reader.read_ipv6 Reader.read_segments Reader.read_segment Prefix.common_prefix
waiting_again = refl

pub third_request_first : first_unlawful setting (instead 3 (Start 3 0 0 0 7 None 0) journal) ≡ Some 3
unfolding NameText.units_of Reading.message_read Reading.question_of Reading.record_of Reading.name_of Reading.run_of AddrReading.address_of Reader.read_ipv4 Reader.read_octet Reader.read_number Reader.read_ipv6 Reader.read_segments Reader.read_segment Prefix.common_prefix
third_request_first = refl

-- the second request was answered before the channel was destroyed, so it is ready first
pub ready_by_completion : ready setting (past_of (cut_to 6 Destroy (instead 6 (Arrive 0 0 (good_reply 9)) journal))) ≡ 1 ∷ 2 ∷ 3 ∷ []
unfolding NameText.units_of Reading.message_read Reading.question_of Reading.record_of Reading.name_of Reading.run_of AddrReading.address_of Reader.read_ipv4 Reader.read_octet Reader.read_number Reader.read_ipv6 Reader.read_segments Reader.read_segment Prefix.common_prefix
ready_by_completion = refl

pub answered_before : ready setting (past_of (cut_to 7 Destroy (instead 6 (Arrive 0 0 (good_reply 9)) journal))) ≡ 2 ∷ 1 ∷ 3 ∷ []
unfolding NameText.units_of Reading.message_read Reading.question_of Reading.record_of Reading.name_of Reading.run_of AddrReading.address_of Reader.read_ipv4 Reader.read_octet Reader.read_number Reader.read_ipv6 Reader.read_segments Reader.read_segment Prefix.common_prefix
answered_before = refl
