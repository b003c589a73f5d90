use Rattle.std.proofs.Common.{◌≡◌, ℕ, ◌+◌, eqb, true, Option, Some, None, refl, sym, ◌∙◌}
use Rattle.std.specs.Prelude.{slice_range, is_some}
use Rattle.std.specs.Option.{option_eq}
use Rattle.dns_message.specs.Shapes.{is_two, strings_of}
use Rattle.message_walk.proofs.rdata.check_rdata.Goals.{in-Any, in-Bytes, in-TwoStrings, in-Strings}
use Rattle.message_walk.proofs.rdata.check_rdata.Goals as goal

-- a count that is Some 2 is two
two : (count : Option ℕ) → option_eq eqb count (Some 2) ≡ true → is_two count ≡ true
two None e = e
two (Some count) e = e

pub returns-then-fits-clause-read : goal.returns-then-fits-clause-read
returns-then-fits-clause-read c =
    let rdata = slice_range c.args.bytes.now c.args.at (c.args.at + c.args.len) in
    elim c.match-shape.branch [
      | in-Any w ↦ (rdata, rw w.in-Any.is refl)
      | in-Bytes w ↦ (rdata, let test : eqb c.args.len w.in-Bytes.count ≡ true = sym w.fits-is ∙ c.if-fits.true in rw (w.in-Bytes.is, test) refl)
      | in-TwoStrings w ↦ (
        rdata,
        let count : option_eq eqb w.string_count.result (Some 2) ≡ true = sym w.eq-fits.ensures ∙ sym w.fits-is ∙ c.if-fits.true in
            let test : is_two (strings_of rdata) ≡ true = two (strings_of rdata) (rw w.string_count.ensures at count) in
            rw (w.in-TwoStrings.is, test) refl,
      )
      | in-Strings w ↦ (
        rdata,
        let count : is_some w.string_count-in-Strings.result ≡ true = sym w.is_some-fits.ensures ∙ sym w.fits-is ∙ c.if-fits.true in
            let test : is_some (strings_of rdata) ≡ true = rw w.string_count-in-Strings.ensures at count in
            rw (w.in-Strings.is, test) refl,
      )
    ]
