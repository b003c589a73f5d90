-- Single rules of answers, each by one that is another without it: their sources, their family, and the status of a search.
-- And a leg that has ended doesn't wait while the other goes on.
use Rattle.std.specs.Prelude.{List, ◌∷◌, [], ◌≡◌, None, refl, Some, ℕ, Option, codes, false, Bool, true, ◌*◌, ◌+◌, ◌^◌}
use Rattle.chan_types.specs.declared.answer.Answer.{Answer}
use Rattle.chan_types.specs.declared.journal.Entry.{Entry}
use Rattle.chan_types.specs.declared.journal.What.TheVariants.{Start, Arrive, Expire}
use Rattle.chan_types.specs.declared.spec.Spec.TheVariants.{Address, Search}
use Rattle.chan_types.specs.declared.status.Status.TheVariants.{BadName, NoData, NotFound, Refused, Success}
use Rattle.hosts_file.specs.declared.hosts.HostLine.{HostLine}
use Rattle.net_addr.specs.declared.addr.Addr.{Addr}
use Rattle.net_addr.specs.declared.addr.Addr.TheVariants.{V4, V6}
use Rattle.net_addr.specs.declared.addr.Family.{Family}
use Rattle.resolv_options.specs.Defaults.{plain_values}
use Rattle.channel_model.specs.Completion.{waiting}
use Rattle.channel_model.specs.Journal.{past_of}
use Rattle.dns_message.specs.Numbers.{class_in, kind_a, kind_aaaa}
use Rattle.channel_model.specs.Setting.{Setting}
use Rattle.channel_model.specs.Tests.{first_unlawful}
use Rattle.channel_examples.specs.AddressRules as AddressRules
use Rattle.channel_examples.specs.AddressRules.{alias_of, ask, four, reply}
use Rattle.channel_examples.specs.Search.{empty_reply, search_www, www, www_a}
use Rattle.channel_examples.specs.Words.{channel_with, one_server, journal_of, accepts, fate_in, status_in, cut_to, instead, x_test}
use Rattle.dns_message.specs.NameText as NameText
use Rattle.dns_message.specs.Reading as Reading
use Rattle.net_addr.specs.Prefix as Prefix
use Rattle.net_addr.specs.Reading as AddrReading
use Rattle.std.specs.Net.Reader as Reader

abbrev pub setting : Setting
setting = channel_with (record plain_values { servers = one_server })

-- 2001:db8::5 and 192.0.2.1
abbrev pub six : Addr
six = V6 (0x20010db8 * 2 ^ 96 + 5)

abbrev pub of_four : Addr
of_four = V4 3221225985

-- the hosts file gives these two to `box`, in this order
abbrev pub lines : List HostLine
lines =
    record { address = six; canonical = codes "box" ∷ []; aliases = [] }
    ∷ record { address = of_four; canonical = codes "box" ∷ []; aliases = [] }
    ∷ []

-- the addresses of `box`, where the host has these of its own
abbrev pub answered_to : List Addr → Bool → Option Answer
answered_to sources nosort =
    fate_in (record { options = record plain_values { sources = sources }; hosts = lines })
    (journal_of (accepts 1 (Address (codes "box") Family.Any nosort) ∷ [])) 1

-- the good answer with these addresses, for a name
abbrev pub with_addresses : List Addr → List (List ℕ) → Answer
with_addresses addresses name = record { number = 1; status = Success; message = []; addresses = addresses; canonical = name }

-- a host that has an IPv4 address alone gets IPv4 addresses first (RFC 6724, section 6, rule 1)
pub by_sources : answered_to (V4 3221225994 ∷ []) false ≡ Some (with_addresses (of_four ∷ six ∷ []) (codes "box" ∷ []))
unfolding NameText.units_of AddrReading.address_of Reader.read_ipv4 Reader.read_octet Reader.read_number Reader.read_ipv6 Reader.read_segments Reader.read_segment Prefix.common_prefix
by_sources = refl

pub without_sources : answered_to [] false ≡ Some (with_addresses (six ∷ of_four ∷ []) (codes "box" ∷ []))
unfolding NameText.units_of AddrReading.address_of Reader.read_ipv4 Reader.read_octet Reader.read_number Reader.read_ipv6 Reader.read_segments Reader.read_segment Prefix.common_prefix
without_sources = refl

-- but not where the caller wants them as they stood
pub unsorted : answered_to (V4 3221225994 ∷ []) true ≡ Some (with_addresses (six ∷ of_four ∷ []) (codes "box" ∷ []))
unfolding NameText.units_of AddrReading.address_of Reader.read_ipv4 Reader.read_octet Reader.read_number Reader.read_ipv6 Reader.read_segments Reader.read_segment Prefix.common_prefix
unsorted = refl

-- of the hosts file a family gets its own
pub listed_in_a_family : fate_in (record { options = plain_values; hosts = lines }) (journal_of (accepts 1 (Address (codes "box") Family.V4 false) ∷ [])) 1
    ≡ Some (with_addresses (of_four ∷ []) (codes "box" ∷ []))
unfolding NameText.units_of AddrReading.address_of Reader.read_ipv4 Reader.read_octet Reader.read_number Reader.read_ipv6 Reader.read_segments Reader.read_segment Prefix.common_prefix
listed_in_a_family = refl

-- what a name below `localhost` is answered in a family
abbrev pub own_addresses : Family → Option Answer
own_addresses family = fate_in (channel_with plain_values) (journal_of (accepts 1 (Address (codes "a.localhost") family false) ∷ [])) 1

pub of_both : own_addresses Family.Any ≡ Some (with_addresses (V6 1 ∷ V4 2130706433 ∷ []) (codes "a" ∷ codes "localhost" ∷ []))
unfolding NameText.units_of AddrReading.address_of Reader.read_ipv4 Reader.read_octet Reader.read_number Reader.read_ipv6 Reader.read_segments Reader.read_segment Prefix.common_prefix
of_both = refl

pub of_the_first : own_addresses Family.V4 ≡ Some (with_addresses (V4 2130706433 ∷ []) (codes "a" ∷ codes "localhost" ∷ []))
unfolding NameText.units_of AddrReading.address_of Reader.read_ipv4 Reader.read_octet Reader.read_number Reader.read_ipv6 Reader.read_segments Reader.read_segment Prefix.common_prefix
of_the_first = refl

pub of_the_second : own_addresses Family.V6 ≡ Some (with_addresses (V6 1 ∷ []) (codes "a" ∷ codes "localhost" ∷ []))
unfolding NameText.units_of AddrReading.address_of Reader.read_ipv4 Reader.read_octet Reader.read_number Reader.read_ipv6 Reader.read_segments Reader.read_segment Prefix.common_prefix
of_the_second = refl

-- where one family is asked for, the answer has the addresses of the only leg
pub of_one_leg : fate_in setting (journal_of (
    accepts 1 (ask Family.V4)
    ∷ Start 1 0 0 0 7 None 0
    ∷ Arrive 0 0 (reply 7 0x8180 kind_a (four ∷ []))
    ∷ [])) 1 ≡ Some (with_addresses (of_four ∷ []) x_test)
unfolding NameText.units_of Reading.message_read Reading.question_of Reading.record_of Reading.name_of Reading.run_of AddrReading.address_of Reader.read_ipv4 Reader.read_octet Reader.read_number Reader.read_ipv6 Reader.read_segments Reader.read_segment Prefix.common_prefix
of_one_leg = refl

-- the canonical name is that of the first leg's answers, where they have an address: here an alias, though the second has none
pub name_of_the_first : fate_in setting (journal_of (
    accepts 1 (ask Family.Any)
    ∷ Start 1 0 0 0 7 None 0
    ∷ Start 1 1 0 0 8 None 0
    ∷ Arrive 0 0 (reply 7 0x8180 kind_a (alias_of x_test ∷ four ∷ []))
    ∷ Arrive 0 0 (reply 8 0x8180 kind_aaaa (AddressRules.six ∷ []))
    ∷ [])) 1 ≡ Some (with_addresses (of_four ∷ V6 5 ∷ []) (codes "w" ∷ codes "test" ∷ []))
unfolding NameText.units_of Reading.message_read Reading.question_of Reading.record_of Reading.name_of Reading.run_of AddrReading.address_of Reader.read_ipv4 Reader.read_octet Reader.read_number Reader.read_ipv6 Reader.read_segments Reader.read_segment Prefix.common_prefix
name_of_the_first = refl

-- what is searched for is answered at once too, where it is no name, or a hidden service's
pub no_name_searched : status_in setting (journal_of (accepts 1 (Search (codes "a..b") kind_a class_in) ∷ [])) 1 ≡ Some BadName
unfolding NameText.units_of
no_name_searched = refl

pub hidden_service_searched : status_in setting (journal_of (accepts 1 (Search (codes "x.onion") kind_a class_in) ∷ [])) 1 ≡ Some NotFound
unfolding NameText.units_of
hidden_service_searched = refl

-- a search of two candidates, with one try each, whose replies have these flags
abbrev pub searching : Setting
searching = channel_with (record plain_values { servers = one_server; tries = 1; domains = (codes "a" ∷ codes "test" ∷ []) ∷ [] })

abbrev pub searched : ℕ → ℕ → List Entry
searched flags flags_then = journal_of (
    accepts 1 search_www
    ∷ Start 1 0 0 0 7 None 0
    ∷ Arrive 0 0 (empty_reply 7 flags www_a)
    ∷ Start 1 2 0 0 8 None 0
    ∷ Arrive 0 0 (empty_reply 8 flags_then www)
    ∷ [])

-- where the first has no data and there is no name behind it, the answer is no data; but a status that ends a search stays
pub no_data_before : status_in searching (searched 0x8180 0x8183) 1 ≡ Some NoData
unfolding NameText.units_of Reading.message_read Reading.question_of Reading.record_of Reading.name_of Reading.run_of
no_data_before = refl

pub refused_behind_no_data : status_in searching (searched 0x8180 0x8185) 1 ≡ Some Refused
unfolding NameText.units_of Reading.message_read Reading.question_of Reading.record_of Reading.name_of Reading.run_of
refused_behind_no_data = refl

pub no_name_twice : status_in searching (searched 0x8183 0x8183) 1 ≡ Some NotFound
unfolding NameText.units_of Reading.message_read Reading.question_of Reading.record_of Reading.name_of Reading.run_of
no_name_twice = refl

-- one leg has ended, and the other has failed once
abbrev pub half_ended : List Entry
half_ended = journal_of (
    accepts 1 (ask Family.Any)
    ∷ Start 1 0 0 0 7 None 0
    ∷ Start 1 1 0 0 8 None 0
    ∷ Arrive 0 0 (reply 7 0x8180 kind_a (four ∷ []))
    ∷ Expire 1 1 2000
    ∷ Start 1 1 0 0 9 None 2000
    ∷ [])

pub other_leg_alone : first_unlawful setting half_ended ≡ None
unfolding NameText.units_of Reading.message_read Reading.question_of Reading.record_of Reading.name_of Reading.run_of AddrReading.address_of Reader.read_ipv4 Reader.read_octet Reader.read_number Reader.read_ipv6 Reader.read_segments Reader.read_segment Prefix.common_prefix
other_leg_alone = refl

pub ended_leg_again : first_unlawful setting (instead 5 (Start 1 0 0 0 9 None 2000) half_ended) ≡ Some 5
unfolding NameText.units_of Reading.message_read Reading.question_of Reading.record_of Reading.name_of Reading.run_of AddrReading.address_of Reader.read_ipv4 Reader.read_octet Reader.read_number Reader.read_ipv6 Reader.read_segments Reader.read_segment Prefix.common_prefix
ended_leg_again = refl

-- while the other is in flight none waits
pub none_waits : waiting setting (past_of (cut_to 3 (Arrive 0 0 (reply 7 0x8180 kind_a (four ∷ []))) half_ended)) ≡ []
unfolding NameText.units_of Reading.message_read Reading.question_of Reading.record_of Reading.name_of Reading.run_of AddrReading.address_of Reader.read_ipv4 Reader.read_octet Reader.read_number Reader.read_ipv6 Reader.read_segments Reader.read_segment Prefix.common_prefix
none_waits = refl
