use Rattle.std.proofs.Common.{◌∙◌}
use Rattle.message_walk.proofs.OptionLemmas.{read_behind}
use Rattle.message_walk.proofs.options.are_options.Goals as goal

pub loop-rest-preserved : goal.loop-rest-preserved
loop-rest-preserved c = c.loop-rest.invariant ∙ read_behind c.loop-rest.rest.now c.in-Some.behind.now c.in-Some.ensures
