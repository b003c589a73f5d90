use Rattle.channel_progress.proofs.ScriptLemmas.{script_in_time}
use Rattle.channel_progress.proofs.waking_laws.a_script_wakes_in_time.Goals as goal

pub returns : goal.returns
returns c = script_in_time
