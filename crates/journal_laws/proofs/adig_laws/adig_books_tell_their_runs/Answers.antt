use Rattle.journal_laws.proofs.AdigLemmas.{adig_tells}
use Rattle.journal_laws.proofs.adig_laws.adig_books_tell_their_runs.Goals as goal

pub returns : goal.returns
returns c = λ ask turns files_before files_after before after run as_book are has_put limits.
    adig_tells c.args.options.now turns before after c.args.ended.now ask files_before files_after c.run_fits.ensures run as_book are has_put limits
