use Rattle.std.proofs.Common.{ℕ, ◌-◌, length, take, drop, ◌∙◌, sym, arith}
use Rattle.dns_cookie.proofs.PlainLemmas.{plain_sliced, rest_all}
use Rattle.dns_cookie.proofs.plain.is_plain.Goals as goal

pub returns : goal.returns
returns c = λ is.
    let query = c.args.query.now in
    let behind = take (length query - 12) (drop 12 query) in
    plain_sliced query behind c.in-Ok.name.stop c.in-Ok.name.count (λ (i : ℕ). omega (arith, c.type_inv.query i)) c.if-query-lt-HEADER_LEN.false
    (sym c.has_counts-counts.ensures ∙ c.if-not-counts.false) (rest_all 12 query) c.in-Ok.ensures.wire (sym c.has_ending.ensures ∙ is)
