use Rattle.boxed_channel.proofs.AnswerLemmas.{refused_closed}
use Rattle.boxed_channel.proofs.state.ChannelState.ask.Goals as goal

pub returns-in-Closed-clause-asks : goal.returns-in-Closed-clause-asks
returns-in-Closed-clause-asks c = refused_closed c.args.spec c.in-Err.refused c.in-Closed.is c.in-Err.ensures.done
