use Rattle.std.proofs.Common.{◌≡◌, ◌+◌, Ok, refl}
use Rattle.std.specs.Prelude.{slice_range}
use Rattle.byteorder.specs.Endian.{big_from}
use Rattle.dns_message.proofs.Theorems.{part_is}
use Rattle.dns_message.specs.Reading.{part_of, question_of}
use Rattle.dns_message.specs.declared.message.Question.{Question}
use Rattle.dns_cookie.proofs.places.question_end.Goals as goal

pub returns-clause-read : goal.returns-clause-read
unfolding question_of
returns-clause-read c =
    let bytes = c.args.bytes.now in
    let at = c.in_ok-fixed_at.fixed_at in
    let name = c.in_ok-fixed_at.ensures.read in
    let part = slice_range bytes at (at + 4) in
    let whole : part_of bytes at 4 ≡ Ok part = part_is bytes at 4 c.if-bytes-fixed_at-lt-QUESTION_FIXED_LEN.false in
    let question : Question = record { name = name.0; kind = big_from 0 2 part; class = big_from 2 2 part } in
    (question, rw (name.1, whole) refl)
