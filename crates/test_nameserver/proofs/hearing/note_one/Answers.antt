use Rattle.std.proofs.Common.{map, ap, ◌∙◌}
use Rattle.test_nameserver.proofs.HearingLemmas.{inserted_noted}
use Rattle.test_nameserver.proofs.hearing.note_one.Goals as goal

pub returns-clause-noted : goal.returns-clause-noted
returns-clause-noted c = ap (map (λ key. key.items)) c.in-Ok.ensures.keys ∙ inserted_noted c.args.asked.now.keys c.args.key
