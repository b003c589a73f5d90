use Rattle.std.proofs.Common.{Some, ap, sym}
use Rattle.chan_types.specs.declared.answer.Answer.{Answer}
use Rattle.channel_model.specs.Meanings.{Takes}
use Rattle.c_types.specs.Told.{quiet}
use Rattle.boxed_channel.proofs.AnswerLemmas.{answered}
use Rattle.boxed_channel.proofs.state.ChannelState.take.Goals as goal

pub returns-in-Some-clause-done : goal.returns-in-Some-clause-done
returns-in-Some-clause-done c =
    answered (λ (taken : Answer). Takes quiet (Some (record { token = tt; call = taken }))) (sym (ap (λ (parts : Unit {0} × Answer). parts.1) c.spend-quiet.ensures)) c.in-Some.ensures.done
