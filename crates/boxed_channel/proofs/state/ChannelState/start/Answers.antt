use Rattle.std.proofs.Common.{Ok}
use Rattle.channel_model.specs.Meanings.{Starts}
use Rattle.boxed_channel.proofs.AnswerLemmas.{answered}
use Rattle.boxed_channel.proofs.state.ChannelState.start.Goals as goal

pub returns-in-Ok-Started-clause-done : goal.returns-in-Ok-Started-clause-done
returns-in-Ok-Started-clause-done c =
    answered (λ begun. Starts c.args.word c.args.mix c.args.at (Ok begun)) c.in-Ok-Started.field-0-is c.in-Ok-Started.ensures.done

pub returns-in-Ok-Idle-clause-done : goal.returns-in-Ok-Idle-clause-done
returns-in-Ok-Idle-clause-done c = answered (λ begun. Starts c.args.word c.args.mix c.args.at (Ok begun)) c.in-Ok-Idle.field-0-is c.in-Ok-Idle.ensures.done

pub returns-in-Ok-NoId-clause-done : goal.returns-in-Ok-NoId-clause-done
returns-in-Ok-NoId-clause-done c = answered (λ begun. Starts c.args.word c.args.mix c.args.at (Ok begun)) c.in-Ok-NoId.field-0-is c.in-Ok-NoId.ensures.done
