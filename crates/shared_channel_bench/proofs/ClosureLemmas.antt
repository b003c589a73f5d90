-- The closures of this benchmark's threads may go to another thread, by what each holds.
use mathlib.Core.List.{[], ◌∷◌}
use base.Fml.{Lft}
use mir.Syntax.{ty_unit, w64}
use denote.Array.{Array}
use denote.Exit.{no}
use denote.Plain.{Boolean, UInt}
use denote.RattleType.{RattleType}
use denote.Param.{arg, param}
use denote.Param.Send.{IsSend, IsSync, arg_send, param_send, sendable}
use denote.Struct.Tuple.{TupleAt, tuple_name}
use Rattle.std.proofs.alloc.Global.TheSendSync as global
use Rattle.std.specs.contracts.alloc.Global as Global
use Rattle.shared_channel.proofs.Theorems.{Own, lent, lent_send, pass_send, tuple_send}

number_send : IsSend (UInt w64)
number_send = search sendable

way_send : IsSend Boolean
way_send = search sendable

numbers_send : IsSend (Array (UInt w64) 4)
numbers_send = search sendable

-- one that asks so many requests through a pass, one by one or under a hold
pub asker_send : (handle channel : Lft) (R : RattleType) → IsSync R → IsSend (param 1 (arg ty_unit no (TupleAt [] (lent handle channel R (Own ∷ Global.the_row ∷ UInt w64 ∷ Boolean ∷ [])))))
asker_send handle channel R shared = lent_send handle channel R (Own ∷ Global.the_row ∷ UInt w64 ∷ Boolean ∷ []) shared (pass_send, (global.the_send, (number_send, (way_send, tt))))

-- one that has two passes for two threads more, and a count for each
pub pair_send : (handle channel : Lft) (R : RattleType) → IsSync R → IsSend (param 1 (arg ty_unit no (TupleAt [] (lent handle channel R (Own ∷ Own ∷ Global.the_row ∷ UInt w64 ∷ UInt w64 ∷ Boolean ∷ [])))))
pair_send handle channel R shared = lent_send handle channel R (Own ∷ Own ∷ Global.the_row ∷ UInt w64 ∷ UInt w64 ∷ Boolean ∷ []) shared (pass_send, (pass_send, (global.the_send, (number_send, (number_send, (way_send, tt))))))

-- one that has four passes for four threads more, and the counts of all of them
pub four_send : (handle channel : Lft) (R : RattleType) → IsSync R → IsSend (param 1 (arg ty_unit no (TupleAt [] (lent handle channel R (Own ∷ Own ∷ Own ∷ Own ∷ Global.the_row ∷ Array (UInt w64) 4 ∷ Boolean ∷ [])))))
four_send handle channel R shared = lent_send handle channel R (Own ∷ Own ∷ Own ∷ Own ∷ Global.the_row ∷ Array (UInt w64) 4 ∷ Boolean ∷ []) shared (pass_send, (pass_send, (pass_send, (pass_send, (global.the_send, (numbers_send, (way_send, tt)))))))

-- what two threads give back, and what four do
abbrev pub Two : RattleType
Two = TupleAt (tuple_name 2) (Own ∷ Own ∷ [])

pub back_send : IsSend (param 3 (arg ty_unit no (TupleAt (tuple_name 2) (Two ∷ Two ∷ []))))
back_send =
    let two : IsSend Two = tuple_send (tuple_name 2) (Own ∷ Own ∷ []) (pass_send, (pass_send, tt)) in
    param_send 3 _ (arg_send ty_unit no _ (tuple_send (tuple_name 2) (Two ∷ Two ∷ []) (two, (two, tt))))
