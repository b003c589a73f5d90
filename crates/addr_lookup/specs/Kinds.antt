-- Records of the two kinds of addresses.
use Rattle.std.specs.Prelude.{◌^◌, List, Option, Some, None, if◌then◌else◌}
use Rattle.dns_message.specs.declared.message.Record.{Record}
use Rattle.net_addr.specs.Reading.{number_of}
use Rattle.net_addr.specs.declared.addr.Addr.{Addr}
use Rattle.net_addr.specs.declared.addr.Addr.TheVariants.{V4, V6}
use Rattle.channel_model.specs.Merge.{addresses_v4, addresses_v6}
use Rattle.dns_message.specs.Numbers.{kind_a, kind_aaaa}
use Rattle.channel_model.specs.Verdict.{is_of_kind}
use Rattle.addr_lookup.specs.declared.records.Kind.{Kind}
use Rattle.addr_lookup.specs.declared.records.Kind.TheVariants.{A, Aaaa}

-- the addresses of the records of a kind
abbrev pub addresses_of_kind : Kind → List Record → List Addr
addresses_of_kind A records = addresses_v4 records
addresses_of_kind Aaaa records = addresses_v6 records

-- the address of a record, if it is of the kind
abbrev pub address_of_kind : Kind → Record → Option Addr
address_of_kind A rr = if is_of_kind kind_a rr then Some (V4 (number_of (2 ^ 8) rr.rdata)) else None
address_of_kind Aaaa rr = if is_of_kind kind_aaaa rr then Some (V6 (number_of (2 ^ 8) rr.rdata)) else None
