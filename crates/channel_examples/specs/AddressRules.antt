-- Single rules of address requests and of the hosts file, each by an answer that fails without it.
use Rattle.std.specs.Prelude.{List, ◌∷◌, [], ◌≡◌, None, refl, Some, ℕ, Option, codes, false}
use Rattle.chan_types.specs.declared.answer.Answer.{Answer}
use Rattle.chan_types.specs.declared.journal.What.TheVariants.{Start, Arrive}
use Rattle.chan_types.specs.declared.spec.Spec.{Spec}
use Rattle.chan_types.specs.declared.spec.Spec.TheVariants.{Address}
use Rattle.chan_types.specs.declared.status.Status.TheVariants.{NoData, NotFound, Success}
use Rattle.dns_message.specs.Spelling.{message_bytes}
use Rattle.dns_message.specs.declared.message.Record.{Record}
use Rattle.dns_message.specs.declared.name.Name.{Name}
use Rattle.hosts_file.specs.declared.hosts.HostLine.{HostLine}
use Rattle.net_addr.specs.declared.addr.Addr.TheVariants.{V4, V6}
use Rattle.net_addr.specs.declared.addr.Family.{Family}
use Rattle.resolv_options.specs.Defaults.{plain_values}
use Rattle.resolv_options.specs.declared.lookups.Lookups.{Lookups}
use Rattle.resolv_options.specs.declared.lookups.Lookups.TheVariants.{Dns, FilesDns}
use Rattle.channel_model.specs.Completion.{waiting}
use Rattle.channel_model.specs.Journal.{past_of}
use Rattle.channel_model.specs.Legs.{leg_of}
use Rattle.channel_model.specs.Merge.{bare, canonical_name}
use Rattle.dns_message.specs.Numbers.{kind_a, kind_aaaa, kind_cname}
use Rattle.channel_model.specs.Setting.{Setting}
use Rattle.channel_model.specs.Tests.{first_unlawful}
use Rattle.channel_examples.specs.Words.{channel_with, one_server, journal_of, accepts, status_in, fate_in, message, question, answer, x_test}
use Rattle.dns_message.specs.NameText as NameText
use Rattle.dns_message.specs.Reading as Reading
use Rattle.net_addr.specs.Prefix as Prefix
use Rattle.net_addr.specs.Reading as AddrReading
use Rattle.std.specs.Net.Reader as Reader

abbrev pub setting : Setting
setting = channel_with (record plain_values { servers = one_server })

-- the addresses of x.test in a family
abbrev pub ask : Family → Spec
ask family = Address (codes "x.test.") family false

-- an address record, and one of the other family
abbrev pub four : Record
four = answer x_test kind_a (192 ∷ 0 ∷ 2 ∷ 1 ∷ [])

abbrev pub six : Record
six = answer x_test kind_aaaa (0 ∷ 0 ∷ 0 ∷ 0 ∷ 0 ∷ 0 ∷ 0 ∷ 0 ∷ 0 ∷ 0 ∷ 0 ∷ 0 ∷ 0 ∷ 0 ∷ 0 ∷ 5 ∷ [])

-- the reply to a question for x.test with these flags and answers
abbrev pub reply : ℕ → ℕ → ℕ → List Record → List ℕ
reply id flags kind answers = message_bytes (message id flags (question x_test kind) answers [])

-- a request for IPv6 addresses has the leg with the odd number
pub odd_leg : waiting setting (past_of (journal_of (accepts 1 (ask Family.V6) ∷ []))) ≡ leg_of 1 1 ∷ []
unfolding NameText.units_of Reading.message_read Reading.question_of Reading.record_of Reading.name_of Reading.run_of AddrReading.address_of Reader.read_ipv4 Reader.read_octet Reader.read_number Reader.read_ipv6 Reader.read_segments Reader.read_segment Prefix.common_prefix
odd_leg = refl

pub even_leg : first_unlawful setting (journal_of (accepts 1 (ask Family.V6) ∷ Start 1 0 0 0 7 None 0 ∷ [])) ≡ Some 1
unfolding NameText.units_of Reading.message_read Reading.question_of Reading.record_of Reading.name_of Reading.run_of AddrReading.address_of Reader.read_ipv4 Reader.read_octet Reader.read_number Reader.read_ipv6 Reader.read_segments Reader.read_segment Prefix.common_prefix
even_leg = refl

-- answers none of which is of the leg's kind are no data
pub answers_of_another_kind : status_in setting (journal_of (accepts 1 (ask Family.V4) ∷ Start 1 0 0 0 7 None 0 ∷ Arrive 0 0 (reply 7 0x8180 kind_a (six ∷ [])) ∷ [])) 1 ≡ Some NoData
unfolding NameText.units_of Reading.message_read Reading.question_of Reading.record_of Reading.name_of Reading.run_of AddrReading.address_of Reader.read_ipv4 Reader.read_octet Reader.read_number Reader.read_ipv6 Reader.read_segments Reader.read_segment Prefix.common_prefix
answers_of_another_kind = refl

-- the records of a leg that ended without success don't count
pub records_of_a_failed_leg : fate_in setting (journal_of (
    accepts 1 (ask Family.Any)
    ∷ Start 1 0 0 0 7 None 0
    ∷ Start 1 1 0 0 8 None 0
    ∷ Arrive 0 0 (reply 7 0x8183 kind_a (four ∷ []))
    ∷ Arrive 0 0 (reply 8 0x8180 kind_aaaa (six ∷ []))
    ∷ [])) 1 ≡ Some (record { number = 1; status = Success; message = []; addresses = V6 5 ∷ []; canonical = x_test })
unfolding NameText.units_of Reading.message_read Reading.question_of Reading.record_of Reading.name_of Reading.run_of AddrReading.address_of Reader.read_ipv4 Reader.read_octet Reader.read_number Reader.read_ipv6 Reader.read_segments Reader.read_segment Prefix.common_prefix
records_of_a_failed_leg = refl

-- the record that says that a name is w.test (RFC 1035, section 3.3.1)
abbrev pub alias_of : Name → Record
alias_of name = answer name kind_cname (1 ∷ 119 ∷ 4 ∷ 116 ∷ 101 ∷ 115 ∷ 116 ∷ 0 ∷ [])

-- an alias of the name is followed, and one of another name isn't
pub own_alias : canonical_name x_test (alias_of x_test ∷ []) ≡ codes "w" ∷ codes "test" ∷ []
unfolding NameText.units_of Reading.message_read Reading.question_of Reading.record_of Reading.name_of Reading.run_of
own_alias = refl

pub alias_of_another : canonical_name x_test (alias_of (codes "y" ∷ codes "test" ∷ []) ∷ []) ≡ x_test
unfolding NameText.units_of Reading.message_read Reading.question_of Reading.record_of Reading.name_of Reading.run_of
alias_of_another = refl

-- what a host is answered at its Accept, with this hosts file and these lookups
abbrev pub answered : List HostLine → Lookups → List ℕ → Option Answer
answered lines lookups host =
    fate_in (record { options = record plain_values { lookups = lookups }; hosts = lines }) (journal_of (accepts 1 (Address host Family.Any false) ∷ [])) 1

-- the line that gives a name the address 127.0.0.2
abbrev pub line : Name → List HostLine
line name = record { address = V4 2130706434; canonical = name; aliases = [] } ∷ []

-- where the servers alone are asked, the hosts file isn't
pub asks_hosts : answered (line (codes "box" ∷ [])) FilesDns (codes "box") ≡ Some (record (bare 1 Success []) { addresses = V4 2130706434 ∷ []; canonical = codes "box" ∷ [] })
unfolding NameText.units_of Reading.message_read Reading.question_of Reading.record_of Reading.name_of Reading.run_of AddrReading.address_of Reader.read_ipv4 Reader.read_octet Reader.read_number Reader.read_ipv6 Reader.read_segments Reader.read_segment Prefix.common_prefix
asks_hosts = refl

pub passes_over_hosts : answered (line (codes "box" ∷ [])) Dns (codes "box") ≡ None
unfolding NameText.units_of Reading.message_read Reading.question_of Reading.record_of Reading.name_of Reading.run_of AddrReading.address_of Reader.read_ipv4 Reader.read_octet Reader.read_number Reader.read_ipv6 Reader.read_segments Reader.read_segment Prefix.common_prefix
passes_over_hosts = refl

-- the hosts file goes before the rule for `localhost`
pub hosts_before_localhost : answered (line (codes "localhost" ∷ [])) FilesDns (codes "localhost") ≡ Some (record (bare 1 Success []) { addresses = V4 2130706434 ∷ []; canonical = codes "localhost" ∷ [] })
unfolding NameText.units_of Reading.message_read Reading.question_of Reading.record_of Reading.name_of Reading.run_of AddrReading.address_of Reader.read_ipv4 Reader.read_octet Reader.read_number Reader.read_ipv6 Reader.read_segments Reader.read_segment Prefix.common_prefix
hosts_before_localhost = refl

-- and the rule for hidden services before the hosts file
pub name_before_hosts : answered (line (codes "x" ∷ codes "onion" ∷ [])) FilesDns (codes "x.onion") ≡ Some (bare 1 NotFound [])
unfolding NameText.units_of Reading.message_read Reading.question_of Reading.record_of Reading.name_of Reading.run_of AddrReading.address_of Reader.read_ipv4 Reader.read_octet Reader.read_number Reader.read_ipv6 Reader.read_segments Reader.read_segment Prefix.common_prefix
name_before_hosts = refl
