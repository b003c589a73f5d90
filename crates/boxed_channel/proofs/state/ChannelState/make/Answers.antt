-- Each reader says the cause of its fault whatever the other text is.
use Rattle.std.proofs.Common.{rules}
use Rattle.boxed_channel.proofs.state.ChannelState.make.Goals as goal

pub returns-in-Err-clause-cause : goal.returns-in-Err-clause-cause
returns-in-Err-clause-cause c = c.in-Err.ensures.cause c.args.hosts.now

pub returns-in-Err-lines_of-clause-cause : goal.returns-in-Err-lines_of-clause-cause
returns-in-Err-lines_of-clause-cause c = c.in-Err-lines_of.ensures.cause c.args.resolv.now (search rules)
