use Rattle.std.proofs.Common.{Ok}
use Rattle.channel_model.specs.Meanings.{Arrives}
use Rattle.boxed_channel.proofs.AnswerLemmas.{answered}
use Rattle.boxed_channel.proofs.state.ChannelState.arrive.Goals as goal

pub returns-in-Ok-Matched-clause-done : goal.returns-in-Ok-Matched-clause-done
returns-in-Ok-Matched-clause-done c =
    answered (λ landed. Arrives c.args.server c.args.link c.args.message.now (Ok landed)) c.in-Ok-Matched.field-0-is c.in-Ok-Matched.ensures.done

pub returns-in-Ok-Stray-clause-done : goal.returns-in-Ok-Stray-clause-done
returns-in-Ok-Stray-clause-done c =
    answered (λ landed. Arrives c.args.server c.args.link c.args.message.now (Ok landed)) c.in-Ok-Stray.field-0-is c.in-Ok-Stray.ensures.done
