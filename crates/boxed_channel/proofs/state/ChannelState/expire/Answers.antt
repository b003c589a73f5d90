use Rattle.std.proofs.Common.{Ok}
use Rattle.channel_model.specs.Meanings.{Expires}
use Rattle.boxed_channel.proofs.AnswerLemmas.{answered}
use Rattle.boxed_channel.proofs.state.ChannelState.expire.Goals as goal

pub returns-in-Ok-Expired-clause-done : goal.returns-in-Ok-Expired-clause-done
returns-in-Ok-Expired-clause-done c = answered (λ lapse. Expires c.args.at (Ok lapse)) c.in-Ok-Expired.field-0-is c.in-Ok-Expired.ensures.done

pub returns-in-Ok-NotDue-clause-done : goal.returns-in-Ok-NotDue-clause-done
returns-in-Ok-NotDue-clause-done c = answered (λ lapse. Expires c.args.at (Ok lapse)) c.in-Ok-NotDue.field-0-is c.in-Ok-NotDue.ensures.done
