use Rattle.query_cache.proofs.StandLemmas.{questions_stand, entries_in_order, answers_given}
use Rattle.query_cache.proofs.laws.kept_questions_stand.Goals as goal

pub returns : goal.returns
returns c = record { questions = questions_stand; order = entries_in_order; answers = answers_given }
