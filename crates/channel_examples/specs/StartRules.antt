-- Single rules of an attempt, each by a journal that fails without it: its server, its query, its link and its deadline.
use Rattle.std.specs.Prelude.{List, ◌∷◌, [], ◌≡◌, None, refl, Some, ℕ, option_map, take}
use Rattle.chan_types.specs.declared.journal.Entry.{Entry}
use Rattle.chan_types.specs.declared.journal.What.TheVariants.{Start, Arrive, Expire, Servers}
use Rattle.chan_types.specs.declared.server_key.ServerKey.{ServerKey}
use Rattle.dns_message.specs.Spelling.{message_bytes}
use Rattle.net_addr.specs.declared.addr.Addr.TheVariants.{V4, V6}
use Rattle.net_addr.specs.declared.addr.ServerAddr.{ServerAddr}
use Rattle.resolv_options.specs.Defaults.{plain_values}
use Rattle.channel_model.specs.Journal.{past_of}
use Rattle.channel_model.specs.Lawful.{first_due}
use Rattle.channel_model.specs.Legs.{leg_of}
use Rattle.channel_model.specs.Past.{leg_query}
use Rattle.channel_model.specs.Setting.{Setting}
use Rattle.channel_model.specs.Tests.{first_unlawful}
use Rattle.channel_examples.specs.Words.{channel_with, one_server, journal_of, accepts, ask_x, instead, flights, reply_with_flags}
use Rattle.dns_message.specs.NameText as NameText
use Rattle.dns_message.specs.Reading as Reading

-- the server at this port of 192.0.2.1, and the same with a key
abbrev pub at_port : ℕ → ServerAddr
at_port port = record { address = V4 3221225985; port = port }

abbrev pub keyed : ℕ → ℕ → ServerKey
keyed key port = record { key = key; address = at_port port }

-- the only server leaves, and one at another port of the same address comes
abbrev pub setting : Setting
setting = channel_with (record plain_values { servers = at_port 53 ∷ [] })

abbrev pub other_port : List Entry
other_port = journal_of (accepts 1 ask_x ∷ Start 1 0 0 0 7 None 0 ∷ Servers (keyed 1 5353 ∷ []) ∷ Start 1 0 1 0 8 None 0 ∷ [])

pub is_another_server : first_unlawful setting other_port ≡ None
unfolding NameText.units_of
is_another_server = refl

-- it doesn't have the key of the one that left
pub key_of_the_address : first_unlawful setting (instead 2 (Servers (keyed 0 5353 ∷ [])) other_port) ≡ Some 2
unfolding NameText.units_of
key_of_the_address = refl

-- nor does a server of the other family whose number is the same
abbrev pub other_family : ServerKey
other_family = record { key = 1; address = record { address = V6 3221225985; port = 53 } }

pub is_another_too : first_unlawful setting (instead 2 (Servers (other_family ∷ [])) other_port) ≡ None
unfolding NameText.units_of
is_another_too = refl

pub key_of_the_number : first_unlawful setting (instead 2 (Servers (record other_family { key = 0 } ∷ [])) other_port) ≡ Some 2
unfolding NameText.units_of
key_of_the_number = refl

-- at the same port it is the same server, and the attempt goes on
abbrev pub same_port : List Entry
same_port = instead 2 (Servers (keyed 0 53 ∷ [])) (take 3 other_port)

pub keeps_its_key : first_unlawful setting same_port ≡ None
unfolding NameText.units_of
keeps_its_key = refl

pub stays_in_flight : flights setting same_port ≡ 1
unfolding NameText.units_of
stays_in_flight = refl

-- the query offers the size that is set: here 4,096 bytes
abbrev pub wide : Setting
wide = channel_with (record plain_values { servers = one_server; edns_size = 4096 })

pub wide_query : option_map message_bytes (leg_query wide (leg_of 1 0) 7 None (past_of (take 1 other_port))) ≡ Some (
    0 ∷ 7 ∷ 1 ∷ 0 ∷ 0 ∷ 1 ∷ 0 ∷ 0 ∷ 0 ∷ 0 ∷ 0 ∷ 1
    ∷ 1 ∷ 120 ∷ 4 ∷ 116 ∷ 101 ∷ 115 ∷ 116 ∷ 0 ∷ 0 ∷ 1 ∷ 0 ∷ 1
    ∷ 0 ∷ 0 ∷ 41 ∷ 16 ∷ 0 ∷ 0 ∷ 0 ∷ 0 ∷ 0 ∷ 0 ∷ 0 ∷ [])
unfolding NameText.units_of
wide_query = refl

-- the first request's reply is truncated while the second is in flight to the same server: over TCP it doesn't go over the link of UDP
abbrev pub plain : Setting
plain = channel_with (record plain_values { servers = one_server })

abbrev pub beside_udp : List Entry
beside_udp = journal_of (
    accepts 1 ask_x
    ∷ accepts 2 ask_x
    ∷ Start 1 0 0 0 7 None 0
    ∷ Start 2 0 0 0 8 None 0
    ∷ Arrive 0 0 (reply_with_flags 7 0x8380)
    ∷ Start 1 0 0 1 9 None 1
    ∷ [])

pub over_a_new_link : first_unlawful plain beside_udp ≡ None
unfolding NameText.units_of Reading.message_read Reading.question_of Reading.record_of Reading.name_of Reading.run_of
over_a_new_link = refl

pub over_that_of_udp : first_unlawful plain (instead 5 (Start 1 0 0 0 9 None 1) beside_udp) ≡ Some 5
unfolding NameText.units_of Reading.message_read Reading.question_of Reading.record_of Reading.name_of Reading.run_of
over_that_of_udp = refl

-- a `max_timeout` that is longer than a wait doesn't lengthen it: the first attempt has 2,000 milliseconds, and the second 4,000
abbrev pub patient : Setting
patient = channel_with (record plain_values { servers = one_server; max_timeout = 5000 })

abbrev pub two_waits : List Entry
two_waits = journal_of (
    accepts 1 ask_x
    ∷ Start 1 0 0 0 7 None 0
    ∷ Expire 1 0 2000
    ∷ Start 1 0 0 0 8 None 2000
    ∷ Expire 1 0 6000
    ∷ Start 1 0 0 0 9 None 6000
    ∷ [])

pub as_long_as_without : first_unlawful patient two_waits ≡ None
unfolding NameText.units_of
as_long_as_without = refl

pub no_earlier : first_unlawful patient (instead 4 (Expire 1 0 5999) two_waits) ≡ Some 4
unfolding NameText.units_of
no_earlier = refl

-- the third would have 8,000, and has 5,000
pub shorter_than_without : first_due patient (past_of two_waits) ≡ Some (record { at = 11000; leg = leg_of 1 0 })
unfolding NameText.units_of
shorter_than_without = refl
