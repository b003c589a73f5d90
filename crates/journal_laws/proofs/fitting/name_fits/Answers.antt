use Rattle.journal_text.proofs.ByteLemmas.{labels_are_bytes}
use Rattle.journal_laws.proofs.fitting.name_fits.Goals as goal

pub returns : goal.returns
returns c = (c.as_wire.ensures.name, labels_are_bytes c.args.name.now c.as_wire.result.now c.as_wire.ensures.value c.bytes_fit.ensures)
