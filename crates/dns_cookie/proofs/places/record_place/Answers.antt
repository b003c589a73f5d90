use Rattle.std.proofs.Common.{◌≡◌, ◌<◌, ◌-◌, ◌+◌, Ok, Err, length, refl}
use Rattle.std.specs.Prelude.{slice_range}
use Rattle.byteorder.specs.Endian.{big_from}
use Rattle.dns_message.proofs.Theorems.{part_cut, part_is}
use Rattle.dns_message.specs.Reading.{part_of, record_of}
use Rattle.dns_message.specs.declared.fault.MessageFault.TheVariants.{ShortPart}
use Rattle.dns_cookie.proofs.places.record_place.Goals as goal

pub returns-then-bytes-fixed_at-lt-RECORD_FIXED_LEN-clause-stands : goal.returns-then-bytes-fixed_at-lt-RECORD_FIXED_LEN-clause-stands
unfolding record_of
returns-then-bytes-fixed_at-lt-RECORD_FIXED_LEN-clause-stands c =
    let at = c.in-Ok.fixed_at in
    let name = c.in-Ok.ensures.read in
    let cut : part_of c.args.bytes.now at 10 ≡ Err (ShortPart at) = part_cut c.args.bytes.now at 10 c.if-bytes-fixed_at-lt-RECORD_FIXED_LEN.true in
    (ShortPart at, rw (name.1, cut) refl)

pub returns-then-bytes-rdata_at-clause-stands : goal.returns-then-bytes-rdata_at-clause-stands
unfolding record_of
returns-then-bytes-rdata_at-clause-stands c =
    let bytes = c.args.bytes.now in
    let at = c.in-Ok.fixed_at in
    let name = c.in-Ok.ensures.read in
    let part = slice_range bytes at (at + 10) in
    let whole : part_of bytes at 10 ≡ Ok part = part_is bytes at 10 c.if-bytes-fixed_at-lt-RECORD_FIXED_LEN.false in
    let short : length bytes - (at + 10) < big_from 8 2 part = rw (← c.u16_at-len.ensures) c.if-bytes-rdata_at.true in
    let cut : part_of bytes (at + 10) (big_from 8 2 part) ≡ Err (ShortPart (at + 10)) = part_cut bytes (at + 10) (big_from 8 2 part) short in
    (ShortPart (at + 10), rw (name.1, whole, cut) refl)
