use Rattle.std.proofs.Common.{◌≡◌, sym, ◌∙◌}
use Rattle.message_walk.specs.declared.sections.OptSeen.TheVariants.{Extends}
use Rattle.dns_cookie.specs.Places.{IsPlacedIn}
use Rattle.dns_cookie.specs.Reply.{cookie_in}
use Rattle.dns_cookie.proofs.ReplyLemmas.{reply_extends}
use Rattle.dns_cookie.proofs.reply.reply_of.Goals as goal

pub returns : goal.returns
returns c = λ m p.
    let placed : IsPlacedIn c.args.bytes.now c.args.at (Extends c.in-Extends.code) m = rw c.in-Extends.is at p in
    let id : c.u16_at-2.result ≡ m.id = c.u16_at-2.ensures ∙ sym placed.id in
    let flags : c.u16_at-3.result ≡ m.flags = c.u16_at-3.ensures ∙ sym placed.flags in
    let cookie : c.in_ok-copied.field-0 ≡ cookie_in m = c.in_ok-copied.ensures ∙ c.cookie_at.ensures m c.in-Extends.code placed in
    rw (id, flags, cookie) (sym (reply_extends m c.in-Extends.code placed.told))
