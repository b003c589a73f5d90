-- The closure of these tests' thread may go to another thread, by what it holds.
use mathlib.Core.List.{[], ◌∷◌}
use base.Fml.{Lft}
use mir.Syntax.{ty_unit}
use denote.Exit.{no}
use denote.RattleType.{RattleType}
use denote.Param.{arg, param}
use denote.Param.Send.{IsSend, IsSync}
use denote.Struct.Tuple.{TupleAt}
use Rattle.std.proofs.alloc.Global.TheSendSync as global
use Rattle.std.specs.contracts.alloc.Global as Global
use Rattle.shared_channel.proofs.Theorems.{Own, lent, lent_send, pass_send}

-- one that asks through a pass
pub asker_send : (handle channel : Lft) (R : RattleType) → IsSync R → IsSend (param 1 (arg ty_unit no (TupleAt [] (lent handle channel R (Global.the_row ∷ Own ∷ [])))))
asker_send handle channel R shared = lent_send handle channel R (Global.the_row ∷ Own ∷ []) shared (global.the_send, (pass_send, tt))
