-- The closures of these tests' threads may go to another thread, by what each holds.
use mathlib.Core.List.{[], ◌∷◌}
use base.Fml.{Lft}
use mir.Syntax.{ty_unit}
use denote.Exit.{no}
use denote.RattleType.{RattleType}
use denote.Param.{arg, param}
use denote.Param.Send.{IsSend, IsSync}
use denote.Struct.Tuple.{TupleAt}
use Rattle.std.proofs.alloc.Global.TheSendSync as global
use Rattle.std.specs.contracts.alloc.Global as Global
use Rattle.chan_types.proofs.spec.Spec.TheSendSync as spec
use Rattle.chan_types.specs.contracts.spec.Spec as Spec
use Rattle.completion_ticket.specs.contracts.callback.Callback as Callback
use Rattle.completion_ticket.specs.contracts.scripted.Scripted as Scripted
use Rattle.completion_ticket.specs.contracts.scripted.ScriptedDone.TheImpl as Impl
use Rattle.shared_channel.proofs.Theorems.{Own, callback_send, lent, lent_send, pass_send}

-- one that makes moves through a pass
pub mover_send : (handle channel : Lft) (R : RattleType) → IsSync R → IsSend (param 1 (arg ty_unit no (TupleAt [] (lent handle channel R (Own ∷ Global.the_row ∷ [])))))
mover_send handle channel R shared = lent_send handle channel R (Own ∷ Global.the_row ∷ []) shared (pass_send, (global.the_send, tt))

-- one that has two passes for two threads more
pub pair_send : (handle channel : Lft) (R : RattleType) → IsSync R → IsSend (param 1 (arg ty_unit no (TupleAt [] (lent handle channel R (Own ∷ Own ∷ Global.the_row ∷ [])))))
pair_send handle channel R shared = lent_send handle channel R (Own ∷ Own ∷ Global.the_row ∷ []) shared (pass_send, (pass_send, (global.the_send, tt)))

-- one that asks a request through a pass
pub asker_send : (handle channel : Lft) (R : RattleType) → IsSync R → IsSend (param 1 (arg ty_unit no (TupleAt [] (lent handle channel R (Own ∷ Spec.the_row ∷ Callback.the_row Scripted.the_row Impl.ghosts ∷ [])))))
asker_send handle channel R shared = lent_send handle channel R (Own ∷ Spec.the_row ∷ Callback.the_row Scripted.the_row Impl.ghosts ∷ []) shared (pass_send, (spec.the_send, (callback_send, tt)))
