-- What SendLemmas and ClosureLemmas say, for callbacks that are scripts, where the journal is kept.
use mathlib.Core.List.{List, []}
use base.Fml.{Lft}
use mir.Syntax.{ty_unit}
use denote.Exit.{no}
use denote.RattleType.{RattleType}
use denote.Param.{arg, param}
use denote.Param.Send.{AllSend, IsSend, IsSync}
use denote.Struct.Tuple.{TupleAt}
use Rattle.channel_journal.specs.contracts.kept.KeptJournal as Kept
use Rattle.channel_journal.specs.contracts.kept.KeptJournalChannelJournal.TheImpl as KeptImpl
use Rattle.completion_ticket.specs.contracts.callback.Callback as Callback
use Rattle.completion_ticket.specs.contracts.scripted.Scripted as Scripted
use Rattle.completion_ticket.specs.contracts.scripted.ScriptedDone.TheImpl as Impl
use Rattle.shared_channel.specs.contracts.channel.Channel as Channel
use Rattle.shared_channel.specs.contracts.pass.Pass as Pass
use Rattle.shared_channel.proofs.ClosureLemmas as any_closure
use Rattle.shared_channel.proofs.SendLemmas as any

pub callback_send : IsSend (Callback.the_row Scripted.the_row Impl.ghosts)
callback_send = any.callback_send Scripted.the_row Impl.ghosts any.scripted_send

-- a pass
abbrev pub Own : RattleType
Own = Pass.the_row Scripted.the_row Kept.the_row Impl.ghosts KeptImpl.ghosts

pub pass_send : IsSend Own
pass_send = any.pass_send Scripted.the_row Impl.ghosts any.scripted_send Kept.the_row KeptImpl.ghosts any.kept_send

pub channel_sync : IsSync (Channel.the_row Scripted.the_row Kept.the_row Impl.ghosts KeptImpl.ghosts)
channel_sync = any.channel_sync Scripted.the_row Impl.ghosts any.scripted_send Kept.the_row KeptImpl.ghosts any.kept_send

-- what is lent to each thread
abbrev pub lent : Lft → Lft → RattleType → List RattleType → List RattleType
lent = any_closure.lent Scripted.the_row Kept.the_row Impl.ghosts KeptImpl.ghosts

-- a thread's closure may go where what is its own may
pub lent_send : (handle channel : Lft) (R : RattleType) (rest : List RattleType) → IsSync R → AllSend rest → IsSend (param 1 (arg ty_unit no (TupleAt [] (lent handle channel R rest))))
lent_send = any_closure.lent_send Scripted.the_row Kept.the_row Impl.ghosts KeptImpl.ghosts any.scripted_send any.kept_send
