use Rattle.channel_model.proofs.ReadingLemmas.{course_reads, so_far_reads}
use Rattle.channel_model.proofs.traffic_laws.each_turn_reads_the_clock_once.Goals as goal

pub returns-clause-whole : goal.returns-clause-whole
returns-clause-whole c = course_reads

pub returns-clause-so_far : goal.returns-clause-so_far
returns-clause-so_far c = so_far_reads
