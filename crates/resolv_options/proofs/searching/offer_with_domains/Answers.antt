use Rattle.resolv_options.proofs.SearchLemmas.{domain_more}
use Rattle.resolv_options.proofs.searching.offer_with_domains.Goals as goal

pub loop-domain-preserved : goal.loop-domain-preserved
loop-domain-preserved c = rw c.in_ok-offer_joined.ensures (domain_more c.args.names.now c.loop-domain.names c.args.name.now c.args.domains.now c.loop-domain.domain-index c.domain-item.result c.loop-domain-test.true c.domain-item.is c.loop-domain.invariant)
