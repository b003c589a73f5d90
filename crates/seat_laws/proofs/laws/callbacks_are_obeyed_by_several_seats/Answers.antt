use Rattle.seat_laws.proofs.ObeyLemmas.{obeyed_by_shifts}
use Rattle.seat_laws.proofs.laws.callbacks_are_obeyed_by_several_seats.Goals as goal

pub returns : goal.returns
returns c = obeyed_by_shifts
