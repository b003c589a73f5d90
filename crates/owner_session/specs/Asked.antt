-- What a session has to do, as it is told.
use Rattle.std.specs.List.{AllByRecursion}
use Rattle.std.specs.Prelude.{List, Option, [], ◌∷◌, ◌≡◌}
use Rattle.chan_types.specs.Plans.{Plan, stop}
use Rattle.chan_types.specs.declared.orders.Orders.{Orders}
use Rattle.chan_types.specs.declared.spec.Spec.{Spec}
use Rattle.channel_model.specs.Commands.{Asking}
use Rattle.net_addr.specs.declared.addr.ServerAddr.{ServerAddr}

-- the requests with the scripts of their callbacks, the orders that callbacks go by, and the servers that are set behind the first turn
pub record Task : Type 0 where
  pub askings : List Asking
  pub orders : Orders
  pub later : Option (List ServerAddr)

-- each request with the script at its place
abbrev pub askings : List Spec → List Plan → List Asking
askings [] plans = []
askings (spec ∷ specs) [] = []
askings (spec ∷ specs) (plan ∷ plans) = record { spec = spec; script = plan } ∷ askings specs plans

-- the same as one value
abbrev pub task_of : List Spec → List Plan → Orders → Option (List ServerAddr) → Task
task_of specs plans orders later = record { askings = askings specs plans; orders = orders; later = later }

-- the callbacks of these requests command nothing: their scripts have no step
abbrev pub AreSilent : List Asking → Type 0
AreSilent askings = AllByRecursion (λ asking. asking.script.moves ≡ stop) askings
