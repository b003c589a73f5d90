use Rattle.channel_model.proofs.CompletionLemmas.{completed_once, taken_in_order, taken_at_most_once}
use Rattle.channel_model.proofs.laws.completes_at_most_once.Goals as goal

pub returns-clause-once : goal.returns-clause-once
returns-clause-once c = completed_once

pub returns-clause-order : goal.returns-clause-order
returns-clause-order c = taken_in_order

pub returns-clause-taken : goal.returns-clause-taken
returns-clause-taken c = taken_at_most_once
