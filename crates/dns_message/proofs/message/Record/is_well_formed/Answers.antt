use Rattle.dns_message.specs.Validity.{well_formed}
use Rattle.dns_message.proofs.message.Record.is_well_formed.Goals as goal

pub returns : goal.returns
unfolding well_formed
returns c = rw (← c.as_slice.ensures) c.is_shaped.ensures
