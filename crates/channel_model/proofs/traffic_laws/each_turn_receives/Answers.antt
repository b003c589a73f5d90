use Rattle.channel_model.proofs.ReadingLemmas.{course_receives}
use Rattle.channel_model.proofs.traffic_laws.each_turn_receives.Goals as goal

pub returns : goal.returns
returns c = course_receives
