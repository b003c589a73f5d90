use Rattle.channel_table.proofs.FlownLemmas.{none_flown}
use Rattle.channel_table.proofs.table.flown.Flown.make.Goals as goal

pub returns : goal.returns
returns c = none_flown _ c.in_ok-flights.ensures c.make-deadlines.ensures
