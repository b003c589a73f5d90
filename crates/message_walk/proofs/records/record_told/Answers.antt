use Rattle.std.proofs.Common.{◌≡◌, ◌+◌, ◌-◌, ◌≤◌, Ok, length, refl, ◌∙◌, arith}
use Rattle.std.specs.Prelude.{slice_range}
use Rattle.dns_message.proofs.Theorems.{part_is}
use Rattle.dns_message.specs.Reading.{part_of, record_of, rdata_of}
use Rattle.dns_message.specs.Shapes.{shape_by}
use Rattle.dns_message.specs.declared.message.Record.{Record}
use Rattle.message_walk.proofs.SectionLemmas.{opt_raw, told_one}
use Rattle.message_walk.proofs.records.record_told.Goals as goal

pub returns-clause-read : goal.returns-clause-read
unfolding record_of
returns-clause-read c =
    let bytes = c.args.bytes.now in
    let p = c.in_ok-fixed_at.fixed_at + 10 in
    let kind = c.u16_in-kind.result in
    let class = c.u16_in-class.result in
    let len = c.u16_in-len.result in
    let name = c.in_ok-fixed_at.ensures.read in
    let checked = c.in_ok-check_rdata.ensures.read in
    let rr : Record = record { name = name.0; kind = kind; class = class; ttl = c.u32_in.result; rdata = checked.0 } in
    let within : len ≤ length bytes - p = omega (arith, c.in_ok-rdata.ensures.within) in
    let whole : part_of bytes p len ≡ Ok (slice_range bytes p (p + len)) = part_is bytes p len within in
    let raw : c.in_ok-rdata.rdata.now ≡ slice_range bytes p (p + len) = cc (whole, c.in_ok-rdata.ensures.read) in
    let shaped : rdata_of bytes p len (shape_by kind class) ≡ Ok checked.0 = rw c.shape_of.ensures at checked.1 in (
      rr,
      rw (name.1, c.in_ok-fixed.ensures.read, ← c.u16_in-len.ensures, ← c.u16_in-kind.ensures, ← c.u16_in-class.ensures, ← c.u32_in.ensures, whole, shaped) refl,
      told_one c.args.wanted rr c.is_wanted.result c.opt_by.result c.is_wanted.ensures (c.opt_by.ensures ∙ rw raw (opt_raw bytes checked.0 p len kind class c.u32_in.result shaped)),
    )
