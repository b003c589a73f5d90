use Rattle.channel_model.proofs.CommandLemmas.{without_entry_had_nothing}
use Rattle.channel_model.proofs.command_laws.commands_without_entry_had_nothing_to_do.Goals as goal

pub returns : goal.returns
returns c = without_entry_had_nothing
