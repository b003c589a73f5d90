-- What contracts see of hands, callbacks and what remains of them.
use Rattle.std.specs.Prelude.{ℕ, ◌*◌, ◌+◌, Bool, false, if◌then◌else◌, List, Option}
use Rattle.chan_types.specs.Plans.{Plan}
use Rattle.chan_types.specs.declared.command.Command.{Command}
use Rattle.chan_types.specs.declared.orders.Orders.{Orders}
use Rattle.chan_types.specs.declared.refusal.Refusal.{Refusal}

-- a hand: the orders that callbacks go by, and the commands that were given and aren't performed yet, the first one first
pub record HandState : Type 0 where
  pub orders : Orders
  pub commands : List Command

-- no order is given
abbrev pub no_orders : Orders
no_orders = record { follow = false; first = false; quit = false }

-- a callback: its script, whether the caller gave its body, and who it is: that body's name, or its script's tag
pub record CallbackState : Type 0 where
  pub plan : Plan
  pub boxed : Bool
  pub name : ℕ

-- what remains of a callback: the number of the answer that it was told, whether the caller gave its body, and who it was
pub record CalledState : Type 0 where
  pub number : ℕ
  pub boxed : Bool
  pub name : ℕ

-- who a callback is among the tokens of a channel, as one number: a body that the caller gave and a script alone are never the same
abbrev pub token_name : CallbackState → ℕ
token_name callback = if callback.boxed then 2 * callback.name + 1 else 2 * callback.name

-- what remains of this callback behind its call with the answer of this number
abbrev pub called_with : ℕ → CallbackState → CalledState
called_with number callback = record { number = number; boxed = callback.boxed; name = callback.name }

-- a callback that is this script alone
abbrev pub script_alone : Plan → CallbackState
script_alone script = record { plan = script; boxed = false; name = script.tag }

-- a body that performs its script: the script, the number of the answer that it was told, and why its request was refused
pub record ScriptedState : Type 0 where
  pub plan : Plan
  pub told : Option ℕ
  pub refusal : Option Refusal
