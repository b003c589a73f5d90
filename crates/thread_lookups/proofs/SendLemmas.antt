-- The closure of a thread that asks may go to another thread, by what it holds.
use mathlib.Core.List.{[], ◌∷◌}
use base.Fml.{Lft}
use mir.Syntax.{ty_unit}
use denote.Exit.{no}
use denote.RattleType.{RattleType}
use denote.Param.{arg, param}
use denote.Param.Send.{IsSend, IsSync, sendable}
use denote.Struct.Tuple.{TupleAt}
use Rattle.std.proofs.Crossing.{crosses}
use Rattle.std.proofs.alloc.Global.TheSendSync as global
use Rattle.std.specs.contracts.alloc.Global as Global
use Rattle.std.specs.contracts.impls.GlobalAllocator.TheImpl as OfGlobal
use Rattle.std.below.std_alloc.specs.contracts.vec.Vec as Vec
use Rattle.chan_types.proofs.spec.Spec.TheSendSync as spec
use Rattle.chan_types.specs.contracts.spec.Spec as Spec
use Rattle.shared_channel.proofs.Theorems.{Own, lent, lent_send, pass_send}

-- requests on the heap
abbrev pub Requests : RattleType
Requests = Vec.the_row Spec.the_row Global.the_row OfGlobal.ghosts

requests_send : IsSend Requests
requests_send = search (spec.the_send, crosses, sendable) depth 60 fits 20000

-- one that asks requests through a pass
pub asker_send : (handle channel : Lft) (R : RattleType) → IsSync R → IsSend (param 1 (arg ty_unit no (TupleAt [] (lent handle channel R (Global.the_row ∷ Own ∷ Requests ∷ [])))))
asker_send handle channel R shared = lent_send handle channel R (Global.the_row ∷ Own ∷ Requests ∷ []) shared (global.the_send, (pass_send, (requests_send, tt)))
