-- An address is answered at once, and its callback asks for the address's names.
use Rattle.std.specs.Prelude.{codes, ◌∷◌, [], List, ℕ, false, ◌≡◌, None, refl, Some}
use Rattle.chan_types.specs.declared.journal.Entry.{Entry}
use Rattle.chan_types.specs.declared.journal.What.TheVariants.{Take, Start, Arrive}
use Rattle.chan_types.specs.declared.spec.Spec.TheVariants.{Address, Reverse}
use Rattle.chan_types.specs.declared.status.Status.TheVariants.{Success}
use Rattle.dns_message.specs.Spelling.{message_bytes}
use Rattle.dns_message.specs.declared.name.Name.{Name}
use Rattle.net_addr.specs.declared.addr.Addr.TheVariants.{V4}
use Rattle.net_addr.specs.declared.addr.Family.{Family}
use Rattle.resolv_options.specs.Defaults.{plain_values}
use Rattle.channel_model.specs.Journal.{past_of}
use Rattle.channel_model.specs.Legs.{leg_of}
use Rattle.channel_model.specs.Merge.{bare}
use Rattle.dns_message.specs.Numbers.{kind_ptr}
use Rattle.channel_model.specs.Questions.{question_of}
use Rattle.channel_model.specs.Setting.{Setting}
use Rattle.channel_model.specs.Tests.{first_unlawful}
use Rattle.channel_examples.specs.Words.{channel_with, one_server, message, question, answer, journal_of, accepts, fate_in}
use Rattle.dns_message.specs.NameText as NameText
use Rattle.dns_message.specs.Reading as Reading
use Rattle.net_addr.specs.Reading as AddrReading
use Rattle.std.specs.Fmt as Fmt
use Rattle.std.specs.Net.Reader as Reader

abbrev pub setting : Setting
setting = channel_with (record plain_values { servers = one_server })

-- 1.2.0.192.in-addr.arpa
abbrev pub reverse_name : Name
reverse_name = codes "1" ∷ codes "2" ∷ codes "0" ∷ codes "192" ∷ codes "in-addr" ∷ codes "arpa" ∷ []

-- the reply with the name host.test
abbrev pub reply : List ℕ
reply = message_bytes (message 7 0x8180 (question reverse_name kind_ptr) (answer reverse_name kind_ptr (4 ∷ 104 ∷ 111 ∷ 115 ∷ 116 ∷ 4 ∷ 116 ∷ 101 ∷ 115 ∷ 116 ∷ 0 ∷ []) ∷ []) [])

abbrev pub journal : List Entry
journal = journal_of (
    accepts 1 (Address (codes "192.0.2.1") Family.Any false)
    ∷ Take 1
    ∷ accepts 2 (Reverse (V4 3221225985))
    ∷ Start 2 0 0 0 7 None 0
    ∷ Arrive 0 0 reply
    ∷ Take 2
    ∷ [])

pub is_lawful : first_unlawful setting journal ≡ None
unfolding NameText.units_of Reading.message_read Reading.question_of Reading.record_of Reading.name_of Reading.run_of AddrReading.address_of Reader.read_ipv4 Reader.read_octet Reader.read_number Reader.read_ipv6 Reader.read_segments Reader.read_segment Fmt.digits
is_lawful = refl

pub asked : question_of setting (leg_of 2 0) (past_of journal) ≡ Some (question reverse_name kind_ptr)
unfolding NameText.units_of Reading.message_read Reading.question_of Reading.record_of Reading.name_of Reading.run_of AddrReading.address_of Reader.read_ipv4 Reader.read_octet Reader.read_number Reader.read_ipv6 Reader.read_segments Reader.read_segment Fmt.digits
asked = refl

pub succeeds : fate_in setting journal 2 ≡ Some (bare 2 Success reply)
unfolding NameText.units_of Reading.message_read Reading.question_of Reading.record_of Reading.name_of Reading.run_of AddrReading.address_of Reader.read_ipv4 Reader.read_octet Reader.read_number Reader.read_ipv6 Reader.read_segments Reader.read_segment Fmt.digits
succeeds = refl
