use Rattle.journal_laws.proofs.AhostLemmas.{ahost_tells}
use Rattle.journal_laws.proofs.ahost_laws.ahost_books_tell_their_runs.Goals as goal

pub returns : goal.returns
returns c = λ ask plans turns files_before files_after before after lines run as_book set bytes has_put limits.
    ahost_tells c.args.options.now c.args.hosts.now c.args.ended.now c.run_fits.ensures ask plans turns files_before files_after before after lines run as_book set bytes has_put limits
