use Rattle.dns_cookie.proofs.JudgingLemmas.{are_rules}
use Rattle.dns_cookie.proofs.laws.handed_on_has_a_reason.Goals as goal

pub returns : goal.returns
returns c = are_rules
