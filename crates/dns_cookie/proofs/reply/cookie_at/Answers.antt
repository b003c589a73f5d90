use Rattle.std.proofs.Common.{◌≡◌, Some, None, Ok, List, ℕ, Option, sym, ap, ◌∙◌}
use Rattle.std.specs.Prelude.{option_map}
use Rattle.dns_message.specs.Reading.{items_of, record_of}
use Rattle.dns_message.specs.declared.message.Record.{Record}
use Rattle.dns_cookie.proofs.ReplyLemmas.{cookie_found}
use Rattle.dns_cookie.proofs.reply.cookie_at.Goals as goal

pub returns-in_err-rdata : goal.returns-in_err-rdata
returns-in_err-rdata c = λ m code p.
    let found = cookie_found m code p.told in
    let stand : items_of (record_of c.args.bytes.now) c.u16_at.result c.args.at ≡ Ok (m.additionals, p.end) = rw c.u16_at.ensures p.stand in
    let none : ◌≡◌ {A = Option (List ℕ)} None (Some found.0.rdata) = c.in_err-rdata.ensures m.additionals p.end stand ∙ ap (option_map (λ (rr : Record). rr.rdata)) found.2 in
    absurd cc

pub returns : goal.returns
returns c = λ m code p.
    let found = cookie_found m code p.told in
    let stand : items_of (record_of c.args.bytes.now) c.u16_at.result c.args.at ≡ Ok (m.additionals, p.end) = rw c.u16_at.ensures p.stand in
    let some : Some c.in_ok-rdata.rdata.now ≡ Some found.0.rdata = c.in_ok-rdata.ensures m.additionals p.end stand ∙ ap (option_map (λ (rr : Record). rr.rdata)) found.2 in
    let same : c.in_ok-rdata.rdata.now ≡ found.0.rdata = cc in
    c.cookie_in.ensures found.1 (rw same found.3) ∙ sym found.4
