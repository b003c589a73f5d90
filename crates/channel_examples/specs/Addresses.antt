-- A host is asked for its addresses of both families, and the answer has those of both replies, sorted.
use Rattle.std.specs.Prelude.{codes, ◌∷◌, [], Bool, List, ℕ, false, ◌≡◌, None, refl, Some, true}
use Rattle.chan_types.specs.declared.journal.Entry.{Entry}
use Rattle.chan_types.specs.declared.journal.What.{What}
use Rattle.chan_types.specs.declared.journal.What.TheVariants.{Start, Arrive, Take, Expire}
use Rattle.chan_types.specs.declared.spec.Spec.{Spec}
use Rattle.chan_types.specs.declared.spec.Spec.TheVariants.{Address}
use Rattle.chan_types.specs.declared.status.Status.TheVariants.{Success, NoData, TimedOut, NotFound}
use Rattle.dns_message.specs.Spelling.{message_bytes}
use Rattle.dns_message.specs.declared.name.Name.{Name}
use Rattle.net_addr.specs.declared.addr.Addr.{Addr}
use Rattle.net_addr.specs.declared.addr.Addr.TheVariants.{V4, V6}
use Rattle.net_addr.specs.declared.addr.Family.{Family}
use Rattle.resolv_options.specs.Defaults.{plain_values}
use Rattle.channel_model.specs.Merge.{bare, status_of_both}
use Rattle.dns_message.specs.Numbers.{kind_a, kind_aaaa, kind_cname}
use Rattle.channel_model.specs.Setting.{Setting}
use Rattle.channel_model.specs.Tests.{first_unlawful}
use Rattle.channel_examples.specs.Words.{channel_with, one_server, message, question, answer, journal_of, accepts, fate_in, instead, status_in}
use Rattle.dns_message.specs.NameText as NameText
use Rattle.dns_message.specs.Reading as Reading
use Rattle.net_addr.specs.Reading as AddrReading
use Rattle.net_addr.specs.Prefix as Prefix
use Rattle.std.specs.Net.Reader as Reader

-- the name www.example.test
abbrev pub www : Name
www = codes "www" ∷ codes "example" ∷ codes "test" ∷ []

abbrev pub setting : Setting
setting = channel_with (record plain_values { servers = one_server })

abbrev pub ask_www : Bool → Spec
ask_www nosort = Address (codes "www.example.test.") Family.Any nosort

-- 192.0.2.1
abbrev pub four : Addr
four = V4 3221225985

-- 2001:db8::5
abbrev pub six : Addr
six = V6 42540766411282592856903984951653826565

-- the reply with the IPv4 address
abbrev pub reply_four : List ℕ
reply_four = message_bytes (message 7 0x8180 (question www kind_a) (answer www kind_a (192 ∷ 0 ∷ 2 ∷ 1 ∷ []) ∷ []) [])

-- the reply with the IPv6 address
abbrev pub reply_six : List ℕ
reply_six = message_bytes (message 8 0x8180 (question www kind_aaaa) (answer www kind_aaaa (32 ∷ 1 ∷ 13 ∷ 184 ∷ 0 ∷ 0 ∷ 0 ∷ 0 ∷ 0 ∷ 0 ∷ 0 ∷ 0 ∷ 0 ∷ 0 ∷ 0 ∷ 5 ∷ []) ∷ []) [])

abbrev pub journal : Bool → List Entry
journal nosort = journal_of (
    accepts 1 (ask_www nosort)
    ∷ Start 1 0 0 0 7 None 0
    ∷ Start 1 1 0 0 8 None 0
    ∷ Arrive 0 0 reply_four
    ∷ Arrive 0 0 reply_six
    ∷ Take 1
    ∷ [])

pub is_lawful : first_unlawful setting (journal false) ≡ None
unfolding NameText.units_of Reading.message_read Reading.question_of Reading.record_of Reading.name_of Reading.run_of AddrReading.address_of Reader.read_ipv4 Reader.read_octet Reader.read_number Reader.read_ipv6 Reader.read_segments Reader.read_segment Prefix.common_prefix
is_lawful = refl

-- without a source IPv6 is preferred
pub sorted_answer : fate_in setting (journal false) 1 ≡ Some (record { number = 1; status = Success; message = []; addresses = six ∷ four ∷ []; canonical = www })
unfolding NameText.units_of Reading.message_read Reading.question_of Reading.record_of Reading.name_of Reading.run_of AddrReading.address_of Reader.read_ipv4 Reader.read_octet Reader.read_number Reader.read_ipv6 Reader.read_segments Reader.read_segment Prefix.common_prefix
sorted_answer = refl

-- unsorted, the addresses of the first leg come first
pub answer_as_it_came : fate_in setting (journal true) 1 ≡ Some (record { number = 1; status = Success; message = []; addresses = four ∷ six ∷ []; canonical = www })
unfolding NameText.units_of Reading.message_read Reading.question_of Reading.record_of Reading.name_of Reading.run_of AddrReading.address_of Reader.read_ipv4 Reader.read_octet Reader.read_number Reader.read_ipv6 Reader.read_segments Reader.read_segment Prefix.common_prefix
answer_as_it_came = refl

-- it hasn't completed before both legs have ended
pub early_take : first_unlawful setting (instead 4 (Take 1) (journal false)) ≡ Some 4
unfolding NameText.units_of Reading.message_read Reading.question_of Reading.record_of Reading.name_of Reading.run_of AddrReading.address_of Reader.read_ipv4 Reader.read_octet Reader.read_number Reader.read_ipv6 Reader.read_segments Reader.read_segment Prefix.common_prefix
early_take = refl

-- where the second leg times out, the addresses of the first are the answer
pub second_times_out : fate_in setting (journal_of (
    accepts 1 (ask_www false)
    ∷ Start 1 0 0 0 7 None 0
    ∷ Start 1 1 0 0 8 None 0
    ∷ Arrive 0 0 reply_four
    ∷ Expire 1 1 2000
    ∷ Start 1 1 0 0 8 None 2000
    ∷ Expire 1 1 6000
    ∷ Start 1 1 0 0 8 None 6000
    ∷ Expire 1 1 14000
    ∷ [])) 1 ≡ Some (record { number = 1; status = Success; message = []; addresses = four ∷ []; canonical = www })
unfolding NameText.units_of Reading.message_read Reading.question_of Reading.record_of Reading.name_of Reading.run_of AddrReading.address_of Reader.read_ipv4 Reader.read_octet Reader.read_number Reader.read_ipv6 Reader.read_segments Reader.read_segment Prefix.common_prefix
second_times_out = refl

-- an address is answered at once, where the family has it
pub itself : fate_in setting (journal_of (accepts 1 (Address (codes "192.0.2.1") Family.Any false) ∷ [])) 1 ≡ Some (record (bare 1 Success []) { addresses = four ∷ [] })
unfolding NameText.units_of Reading.message_read Reading.question_of Reading.record_of Reading.name_of Reading.run_of AddrReading.address_of Reader.read_ipv4 Reader.read_octet Reader.read_number Reader.read_ipv6 Reader.read_segments Reader.read_segment Prefix.common_prefix
itself = refl

pub other_family : fate_in setting (journal_of (accepts 1 (Address (codes "192.0.2.1") Family.V6 false) ∷ [])) 1 ≡ Some (bare 1 NoData [])
unfolding NameText.units_of Reading.message_read Reading.question_of Reading.record_of Reading.name_of Reading.run_of AddrReading.address_of Reader.read_ipv4 Reader.read_octet Reader.read_number Reader.read_ipv6 Reader.read_segments Reader.read_segment Prefix.common_prefix
other_family = refl

-- the replies to the two questions without an address: there is no such name, and there is no such record
abbrev pub no_such_name : List ℕ
no_such_name = message_bytes (message 7 0x8183 (question www kind_a) [] [])

abbrev pub no_such_record : List ℕ
no_such_record = message_bytes (message 8 0x8180 (question www kind_aaaa) [] [])

-- the journal in which the legs end with these
abbrev pub answered_by : List What → List Entry
answered_by ends = journal_of (accepts 1 (ask_www false) ∷ Start 1 0 0 0 7 None 0 ∷ Start 1 1 0 0 8 None 0 ∷ ends)

pub no_data_in_one : status_in setting (answered_by (Arrive 0 0 no_such_name ∷ Arrive 0 0 no_such_record ∷ [])) 1 ≡ Some NoData
unfolding NameText.units_of Reading.message_read Reading.question_of Reading.record_of Reading.name_of Reading.run_of AddrReading.address_of Reader.read_ipv4 Reader.read_octet Reader.read_number Reader.read_ipv6 Reader.read_segments Reader.read_segment Prefix.common_prefix
no_data_in_one = refl

-- no data in one leg goes before the other leg's failure
pub failure_and_no_data : status_of_both TimedOut NoData ≡ NoData
failure_and_no_data = refl

pub failure_alone : status_of_both NotFound TimedOut ≡ TimedOut
failure_alone = refl

pub first_failure : status_of_both TimedOut NotFound ≡ TimedOut
first_failure = refl

-- the reply to the second question with an alias: www.example.test is web.test, which has the address
abbrev pub alias_reply : List ℕ
alias_reply = message_bytes (message 8 0x8180 (question www kind_aaaa)
    (answer www kind_cname (3 ∷ 119 ∷ 101 ∷ 98 ∷ 4 ∷ 116 ∷ 101 ∷ 115 ∷ 116 ∷ 0 ∷ [])
    ∷ answer (codes "WEB" ∷ codes "test" ∷ []) kind_aaaa (32 ∷ 1 ∷ 13 ∷ 184 ∷ 0 ∷ 0 ∷ 0 ∷ 0 ∷ 0 ∷ 0 ∷ 0 ∷ 0 ∷ 0 ∷ 0 ∷ 0 ∷ 5 ∷ []) ∷ []) [])

-- where the first leg has no address, the aliases of the second are followed
pub behind_the_alias : fate_in setting (answered_by (Arrive 0 0 no_such_name ∷ Arrive 0 0 alias_reply ∷ [])) 1
    ≡ Some (record { number = 1; status = Success; message = []; addresses = six ∷ []; canonical = codes "web" ∷ codes "test" ∷ [] })
unfolding NameText.units_of Reading.message_read Reading.question_of Reading.record_of Reading.name_of Reading.run_of AddrReading.address_of Reader.read_ipv4 Reader.read_octet Reader.read_number Reader.read_ipv6 Reader.read_segments Reader.read_segment Prefix.common_prefix
behind_the_alias = refl

-- an answer of another kind or class is no address
pub other_class : status_in setting (answered_by (
    Arrive 0 0 (message_bytes (message 7 0x8180 (question www kind_a) (record (answer www kind_a (192 ∷ 0 ∷ 2 ∷ 1 ∷ [])) { class = 3 } ∷ []) []))
    ∷ Arrive 0 0 no_such_record ∷ [])) 1 ≡ Some NoData
unfolding NameText.units_of Reading.message_read Reading.question_of Reading.record_of Reading.name_of Reading.run_of AddrReading.address_of Reader.read_ipv4 Reader.read_octet Reader.read_number Reader.read_ipv6 Reader.read_segments Reader.read_segment Prefix.common_prefix
other_class = refl
