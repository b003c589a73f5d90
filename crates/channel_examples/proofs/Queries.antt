-- The bytes of a query, with an OPT record and without (RFC 1035, section 4.1; RFC 6891, section 6.1).
use Rattle.std.proofs.Common.{◌≡◌, List, [], ◌∷◌, Bool, true, false, None, refl}
use Rattle.std.specs.Prelude.{codes}
use Rattle.chan_types.specs.declared.journal.What.{What}
use Rattle.chan_types.specs.declared.journal.What.TheVariants.{Accept}
use Rattle.chan_types.specs.declared.spec.Spec.TheVariants.{Query}
use Rattle.chan_types.specs.Plans.{blank}
use Rattle.resolv_options.specs.Defaults.{plain_values, plain_flags}
use Rattle.channel_model.specs.Flight.{Attempt}
use Rattle.channel_model.specs.Legs.{leg_of}
use Rattle.channel_model.specs.Setting.{Setting}
use Rattle.channel_model.specs.Traffic.{query_bytes}
use Rattle.channel_examples.specs.Words.{channel_with, one_server}
use Rattle.dns_message.specs.NameText as NameText

abbrev setting : Bool → Setting
setting edns = channel_with (record plain_values { servers = one_server; flags = record plain_flags { edns = edns } })

-- example.com's IPv4 addresses are asked for, with the identifier 0x1234
abbrev attempt : Attempt
attempt = record { leg = leg_of 1 0; server = 0; link = 0; id = 0x1234; mix = None; moment = 0 }

abbrev past : List What
past = Accept 1 (Query (codes "example.com") 1 1) (blank 0) ∷ []

pub without_opt : query_bytes (setting false) past attempt ≡
    0x12 ∷ 0x34 ∷ 0x01 ∷ 0x00 ∷ 0x00 ∷ 0x01 ∷ 0x00 ∷ 0x00 ∷ 0x00 ∷ 0x00 ∷ 0x00 ∷ 0x00
    ∷ 0x07 ∷ 0x65 ∷ 0x78 ∷ 0x61 ∷ 0x6d ∷ 0x70 ∷ 0x6c ∷ 0x65 ∷ 0x03 ∷ 0x63 ∷ 0x6f ∷ 0x6d ∷ 0x00 ∷ 0x00 ∷ 0x01 ∷ 0x00 ∷ 0x01 ∷ []
unfolding NameText.units_of
without_opt = refl

pub with_opt : query_bytes (setting true) past attempt ≡
    0x12 ∷ 0x34 ∷ 0x01 ∷ 0x00 ∷ 0x00 ∷ 0x01 ∷ 0x00 ∷ 0x00 ∷ 0x00 ∷ 0x00 ∷ 0x00 ∷ 0x01
    ∷ 0x07 ∷ 0x65 ∷ 0x78 ∷ 0x61 ∷ 0x6d ∷ 0x70 ∷ 0x6c ∷ 0x65 ∷ 0x03 ∷ 0x63 ∷ 0x6f ∷ 0x6d ∷ 0x00 ∷ 0x00 ∷ 0x01 ∷ 0x00 ∷ 0x01
    ∷ 0x00 ∷ 0x00 ∷ 0x29 ∷ 0x04 ∷ 0xd0 ∷ 0x00 ∷ 0x00 ∷ 0x00 ∷ 0x00 ∷ 0x00 ∷ 0x00 ∷ []
unfolding NameText.units_of
with_opt = refl
