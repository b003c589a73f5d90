-- How many attempts some requests may spend.
use Rattle.std.proofs.Common.{◌≡◌, ℕ, ◌+◌, List, [], ◌∷◌, ◌++◌, true, false, refl}
use Rattle.std.specs.Net.Reader as Reader
use Rattle.std.specs.Prelude.{codes}
use Rattle.chan_types.specs.Plans.{blank}
use Rattle.chan_types.specs.declared.journal.Entry.{Entry}
use Rattle.chan_types.specs.declared.journal.What.TheVariants.{Accept, Servers}
use Rattle.chan_types.specs.declared.server_key.ServerKey.{ServerKey}
use Rattle.chan_types.specs.declared.spec.Spec.{Spec}
use Rattle.chan_types.specs.declared.spec.Spec.TheVariants.{Address, Query, Reverse, Search}
use Rattle.dns_message.specs.NameText as NameText
use Rattle.dns_message.specs.Numbers.{class_in, kind_a}
use Rattle.net_addr.specs.Reading as AddrReading
use Rattle.net_addr.specs.declared.addr.Addr.TheVariants.{V4}
use Rattle.net_addr.specs.declared.addr.Family.{Family}
use Rattle.resolv_options.specs.Defaults.{plain_flags, plain_values}
use Rattle.resolv_options.specs.declared.options.Options.{Options}
use Rattle.channel_model.specs.Setting.{Setting}
use Rattle.channel_progress.specs.Allowed.{attempts_allowed}

-- servers at 192.0.2.53 and 192.0.2.54, each tried three times, and the domain test
abbrev options : Options
options = record plain_values { servers = record { address = V4 3221226037; port = 53 } ∷ record { address = V4 3221226038; port = 53 } ∷ []; domains = (codes "test" ∷ []) ∷ [] }

-- a channel with them
abbrev setting : Setting
setting = record { options = options; hosts = [] }

-- a journal in which this is asked first
abbrev asks : Spec → List Entry
asks spec = record { seat = 0; by = 0; what = Accept 1 spec (blank 0) } ∷ []

-- the server with this key, at 192.0.2.53 plus the key
abbrev server : ℕ → ServerKey
server key = record { key = key; address = record { address = V4 (3221226037 + key); port = 53 } }

-- here a list of servers is set
abbrev sets : List ServerKey → Entry
sets list = record { seat = 0; by = 0; what = Servers list }

-- a query has one candidate with one leg
pub for_a_query : attempts_allowed setting (asks (Query (codes "x.test.") kind_a class_in)) ≡ 6
unfolding NameText.units_of
for_a_query = refl

-- a search for a name without a dot has two candidates here: with the domain, and as it is
pub for_a_search : attempts_allowed setting (asks (Search (codes "x") kind_a class_in)) ≡ 12
unfolding NameText.units_of
for_a_search = refl

-- for the addresses of both families each has two legs
pub for_addresses : attempts_allowed setting (asks (Address (codes "x") Family.Any false)) ≡ 24
unfolding NameText.units_of AddrReading.address_of Reader.read_ipv4 Reader.read_octet Reader.read_number Reader.read_ipv6 Reader.read_segments Reader.read_segment
for_addresses = refl

-- where only the first server is used, half of them
pub for_the_first_server : attempts_allowed (record setting { options = record options { flags = record plain_flags { primary = true } } }) (asks (Query (codes "x.test.") kind_a class_in)) ≡ 3
unfolding NameText.units_of
for_the_first_server = refl

-- a request that completes at once needs none
pub for_the_host_itself : attempts_allowed setting (asks (Address (codes "localhost") Family.Any false)) ≡ 0
unfolding NameText.units_of AddrReading.address_of Reader.read_ipv4 Reader.read_octet Reader.read_number Reader.read_ipv6 Reader.read_segments Reader.read_segment
for_the_host_itself = refl

-- nor does one for a text that is no name
pub for_no_name : attempts_allowed setting (asks (Query (codes "x..test") kind_a class_in)) ≡ 0
unfolding NameText.units_of
for_no_name = refl

-- each request has its own
pub for_two : attempts_allowed setting (record { seat = 0; by = 0; what = Accept 1 (Reverse (V4 1)) (blank 0) } ∷ record { seat = 0; by = 0; what = Accept 2 (Query (codes "x.test.") kind_a class_in) (blank 0) } ∷ []) ≡ 12
unfolding NameText.units_of
for_two = refl

-- where a third server joins the two, three tries of each of three, and one for the list that is set
pub for_a_third_server : attempts_allowed setting (asks (Query (codes "x.test.") kind_a class_in) ++ sets (server 0 ∷ server 1 ∷ server 2 ∷ []) ∷ []) ≡ 10
unfolding NameText.units_of
for_a_third_server = refl

-- where one server is left, the two of the beginning count still
pub for_one_left : attempts_allowed setting (asks (Query (codes "x.test.") kind_a class_in) ++ sets (server 0 ∷ []) ∷ []) ≡ 7
unfolding NameText.units_of
for_one_left = refl

-- where lists are set twice, two more than for the longest of them
pub for_two_lists : attempts_allowed setting (asks (Query (codes "x.test.") kind_a class_in) ++ sets (server 0 ∷ server 1 ∷ server 2 ∷ []) ∷ sets (server 2 ∷ []) ∷ []) ≡ 11
unfolding NameText.units_of
for_two_lists = refl

-- each request may spend so many, though it is accepted later
pub for_two_and_a_list :
    attempts_allowed setting
    (asks (Query (codes "x.test.") kind_a class_in) ++ sets (server 0 ∷ server 1 ∷ server 2 ∷ []) ∷ record { seat = 0; by = 0; what = Accept 2 (Reverse (V4 1)) (blank 0) } ∷ [])
    ≡ 20
unfolding NameText.units_of
for_two_and_a_list = refl
