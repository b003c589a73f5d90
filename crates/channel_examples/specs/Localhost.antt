-- A host of the hosts file is answered at its Accept, and nothing is asked.
use Rattle.std.specs.Prelude.{List, codes, ◌∷◌, [], ℕ, Option, false, ◌≡◌, Some, refl, None}
use Rattle.chan_types.specs.declared.answer.Answer.{Answer}
use Rattle.chan_types.specs.declared.spec.Spec.TheVariants.{Address}
use Rattle.chan_types.specs.declared.status.Status.TheVariants.{Success, NotFound}
use Rattle.hosts_file.specs.declared.hosts.HostLine.{HostLine}
use Rattle.net_addr.specs.declared.addr.Addr.TheVariants.{V4, V6}
use Rattle.net_addr.specs.declared.addr.Family.{Family}
use Rattle.resolv_options.specs.Defaults.{plain_values}
use Rattle.resolv_options.specs.declared.lookups.Lookups.TheVariants.{Files}
use Rattle.channel_model.specs.Merge.{bare}
use Rattle.channel_model.specs.Setting.{Setting}
use Rattle.channel_examples.specs.Words.{fate_in, journal_of, accepts}
use Rattle.dns_message.specs.NameText as NameText
use Rattle.net_addr.specs.Reading as AddrReading
use Rattle.net_addr.specs.Prefix as Prefix
use Rattle.std.specs.Net.Reader as Reader

-- the lines `127.0.0.1 localhost`, `127.0.1.1 box` and `::1 ip6-localhost ip6-loopback localhost`
abbrev pub lines : List HostLine
lines =
    record { address = V4 2130706433; canonical = codes "localhost" ∷ []; aliases = [] }
    ∷ record { address = V4 2130706689; canonical = codes "box" ∷ []; aliases = [] }
    ∷ record { address = V6 1; canonical = codes "ip6-localhost" ∷ []; aliases = (codes "ip6-loopback" ∷ []) ∷ (codes "localhost" ∷ []) ∷ [] }
    ∷ []

abbrev pub setting : Setting
setting = record { options = plain_values; hosts = lines }

-- what a host's request is answered at its Accept
abbrev pub answered : Setting → List ℕ → Option Answer
answered setting host = fate_in setting (journal_of (accepts 1 (Address host Family.Any false) ∷ [])) 1

pub localhost : answered setting (codes "localhost") ≡ Some (record { number = 1; status = Success; message = []; addresses = V6 1 ∷ V4 2130706433 ∷ []; canonical = codes "localhost" ∷ [] })
unfolding NameText.units_of AddrReading.address_of Reader.read_ipv4 Reader.read_octet Reader.read_number Reader.read_ipv6 Reader.read_segments Reader.read_segment Prefix.common_prefix
localhost = refl

pub box : answered setting (codes "BOX.") ≡ Some (record { number = 1; status = Success; message = []; addresses = V4 2130706689 ∷ []; canonical = codes "box" ∷ [] })
unfolding NameText.units_of AddrReading.address_of Reader.read_ipv4 Reader.read_octet Reader.read_number Reader.read_ipv6 Reader.read_segments Reader.read_segment Prefix.common_prefix
box = refl

-- without a line a name below `localhost` is the host itself
pub below_localhost : answered setting (codes "a.LocalHost") ≡ Some (record { number = 1; status = Success; message = []; addresses = V6 1 ∷ V4 2130706433 ∷ []; canonical = codes "a" ∷ codes "LocalHost" ∷ [] })
unfolding NameText.units_of AddrReading.address_of Reader.read_ipv4 Reader.read_octet Reader.read_number Reader.read_ipv6 Reader.read_segments Reader.read_segment Prefix.common_prefix
below_localhost = refl

-- any other name is asked, but not where the hosts file alone is
pub asked : answered setting (codes "x.test") ≡ None
unfolding NameText.units_of AddrReading.address_of Reader.read_ipv4 Reader.read_octet Reader.read_number Reader.read_ipv6 Reader.read_segments Reader.read_segment Prefix.common_prefix
asked = refl

pub files_alone : answered (record { options = record plain_values { lookups = Files }; hosts = lines }) (codes "x.test") ≡ Some (bare 1 NotFound [])
unfolding NameText.units_of AddrReading.address_of Reader.read_ipv4 Reader.read_octet Reader.read_number Reader.read_ipv6 Reader.read_segments Reader.read_segment Prefix.common_prefix
files_alone = refl
