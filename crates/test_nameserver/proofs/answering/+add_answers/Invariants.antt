use Rattle.test_nameserver.proofs.answering.+add_answers.Given as goal

abbrev pub decreases-add_answers : goal.decreases-add_answers
decreases-add_answers l = l.aliases
