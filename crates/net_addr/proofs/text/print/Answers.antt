use Rattle.std.proofs.Common.{◌≡◌, sym, subst, rules}
use Rattle.net_addr.specs.Canonical.{IsCanonical}
use Rattle.net_addr.specs.Text.{text_of, Spells}
use Rattle.net_addr.proofs.CanonicalLemmas.{canonical}
use Rattle.net_addr.proofs.TextLemmas.{spelled_by_text}
use Rattle.net_addr.proofs.text.print.Goals as goal

pub returns-clause-canonical : goal.returns-clause-canonical
returns-clause-canonical c =
    let text : c.from_vec.result ≡ text_of c.args.address = search rules in
    subst (λ t. IsCanonical t c.args.address) (sym text) (canonical c.args.address)

pub returns-clause-reads : goal.returns-clause-reads
returns-clause-reads c =
    let text : c.from_vec.result ≡ text_of c.args.address = search rules in
    subst (λ t. Spells t c.args.address) (sym text) (spelled_by_text c.args.address c.ip_of-ip.ensures.fits)
