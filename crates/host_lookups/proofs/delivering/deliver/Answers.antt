use Rattle.std.proofs.Common.{ap, ◌∙◌}
use Rattle.channel_model.specs.Completion.{taken}
use Rattle.channel_model.specs.Journal.{past_of}
use Rattle.channel_table.specs.Calling.{Owned}
use Rattle.host_lookups.proofs.ExtendLemmas.{extends_then, extends_voice}
use Rattle.host_lookups.proofs.StandingLemmas.{still_then, still_voice}
use Rattle.host_lookups.proofs.delivering.deliver.Goals as goal

pub loop-command-init : goal.loop-command-init
loop-command-init c = record { extends = extends_voice _ _ _ c.voice.ensures; takes = ap (λ (channel : Owned). taken (past_of channel.seen)) c.voice.ensures; stands = still_voice _ _ _ c.voice.ensures }

pub loop-command-preserved : goal.loop-command-preserved
loop-command-preserved c = record {
  extends = extends_then _ _ _ c.loop-command.invariant.extends c.perform.ensures.extends;
  takes = c.perform.ensures.takes ∙ c.loop-command.invariant.takes;
  stands = still_then _ _ _ c.loop-command.invariant.stands c.perform.ensures.stands;
}

pub returns-clause-stands : goal.returns-clause-stands
returns-clause-stands c = still_then _ _ _ c.loop-command.invariant.stands (still_voice _ _ _ c.voice-2.ensures)
