-- A thread's closure may go to another thread where all that it holds may: a reference to the thread's handle, one to the channel, a pass, and what its work takes.
use mathlib.Core.List.{List, [], ◌∷◌}
use Prim.Native.Nat.{ℕ}
use base.Fml.{Lft}
use mir.Syntax.{named, ty_unit}
use denote.Exit.{no}
use denote.RattleType.{RattleType}
use denote.Param.{arg, param}
use denote.Param.Send.{AllSend, IsSend, IsSync, arg_send, param_send, recorded_send, shr_send, struct_send}
use denote.Ref.{ShrRef}
use denote.Struct.Declared.{shape}
use denote.Struct.Field.{rows}
use denote.Struct.Tuple.{TupleAt, field_at, parts, type_at}
use Rattle.channel_journal.specs.declared.journal.ChannelJournal.{Ghosts as JournalGhosts}
use Rattle.completion_ticket.specs.declared.done.Done as done
use Rattle.shared_channel.specs.contracts.channel.Channel as Channel
use Rattle.shared_channel.proofs.SendLemmas.{channel_sync}

all_parts : (Ts : List RattleType) → AllSend Ts → AllSend (rows (parts Ts))
all_parts [] all = tt
all_parts (T ∷ Ts) all = (all.0, all_parts Ts all.1)

-- a tuple may go where its parts may
pub tuple_send : (name : List ℕ) (Ts : List RattleType) → AllSend Ts → IsSend (TupleAt name Ts)
tuple_send name Ts all = recorded_send (field_at name Ts).row _ _ (type_at name Ts).to_one (struct_send (shape (type_at name Ts)) (all_parts Ts all))

-- a closure is a tuple of what it holds, under a name that its ownership doesn't depend on
closure_send : (Ts : List RattleType) → AllSend Ts → IsSend (param 1 (arg ty_unit no (TupleAt [] Ts)))
closure_send Ts all = param_send 1 _ (arg_send ty_unit no _ (tuple_send [] Ts all))

module _ (B J : RattleType) (g : done.Ghosts B.Denot) (k : JournalGhosts J.Denot) where
  -- what is lent to each thread: its handle, and the channel
  abbrev pub lent : Lft → Lft → RattleType → List RattleType → List RattleType
  lent handle channel R rest = ShrRef (named 0) handle R ∷ ShrRef (named 0) channel (Channel.the_row B J g k) ∷ rest

  -- a thread's closure may go where what is its own may
  pub lent_send : IsSend B → IsSend J → (handle channel : Lft) (R : RattleType) (rest : List RattleType) → IsSync R → AllSend rest → IsSend (param 1 (arg ty_unit no (TupleAt [] (lent handle channel R rest))))
  lent_send b j handle channel R rest shared all = closure_send (lent handle channel R rest) (shr_send _ _ R shared, (shr_send _ _ (Channel.the_row B J g k) (channel_sync B g b J k j), all))
