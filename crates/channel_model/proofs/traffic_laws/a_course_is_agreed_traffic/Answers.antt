use Rattle.channel_model.proofs.CourseLemmas.{course_agrees}
use Rattle.channel_model.proofs.traffic_laws.a_course_is_agreed_traffic.Goals as goal

pub returns : goal.returns
returns c = course_agrees
