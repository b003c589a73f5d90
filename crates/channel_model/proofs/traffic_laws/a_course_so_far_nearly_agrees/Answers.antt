use Rattle.channel_model.proofs.CutCourseLemmas.{so_far_nearly}
use Rattle.channel_model.proofs.traffic_laws.a_course_so_far_nearly_agrees.Goals as goal

pub returns : goal.returns
returns c = so_far_nearly
