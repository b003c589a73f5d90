use Rattle.std.proofs.Common.{◌≡◌, false, ltb, length, Ok, refl, ap}
use Rattle.std.proofs.lemmas.Bool.{le-ltb}
use Rattle.byteorder.specs.Endian.{big_from}
use Rattle.dns_message.specs.Reading.{items_of, message_read, question_of, record_of}
use Rattle.dns_message.specs.declared.message.Message.{Message}
use Rattle.message_walk.specs.declared.sections.Section.{Section}
use Rattle.dns_cookie.proofs.places.additionals_of.Goals as goal

pub returns-clause-read : goal.returns-clause-read
unfolding message_read
returns-clause-read c =
    let bytes = c.args.bytes.now in
    let first = c.in_ok-answers.ensures.read in
    let second = c.in_ok-authorities.ensures.read in
    let third = c.in_ok-additionals.ensures.read in
    let fourth = c.in_ok-section.ensures.read in
    let header : ltb (length bytes) 12 ≡ false = le-ltb (length bytes) 12 c.if-bytes-lt-HEADER_LEN.false in
    let questions : items_of (question_of bytes) (big_from 4 2 bytes) 12 ≡ Ok (first.0, c.in_ok-answers.answers) = rw (← c.u16_at.ensures) first.1 in
    let answers : items_of (record_of bytes) (big_from 6 2 bytes) c.in_ok-answers.answers ≡ Ok (second.0, c.in_ok-authorities.authorities) = rw (← c.u16_at-2.ensures) second.1 in
    let authorities : items_of (record_of bytes) (big_from 8 2 bytes) c.in_ok-authorities.authorities ≡ Ok (third.0, c.in_ok-additionals.additionals) = rw (← c.u16_at-3.ensures) third.1 in
    let additionals : items_of (record_of bytes) (big_from 10 2 bytes) c.in_ok-additionals.additionals ≡ Ok (fourth.0, c.in_ok-section.end) = rw (← c.u16_at-4.ensures) fourth.1 in
    let end : ltb c.in_ok-section.end (length bytes) ≡ false = le-ltb c.in_ok-section.end (length bytes) c.if-end-bytes.false in
    let m : Message = record {
      id = big_from 0 2 bytes;
      flags = big_from 2 2 bytes;
      questions = first.0;
      answers = second.0;
      authorities = third.0;
      additionals = fourth.0;
    } in (
      m,
      rw (header, questions, answers, authorities, additionals, end) refl,
      record { id = refl; flags = refl; told = ap (λ (section : Section). section.opt) fourth.2; end = c.in_ok-section.end; stand = additionals },
    )
