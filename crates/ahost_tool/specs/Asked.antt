-- What a run has to do, as it is told.
use Rattle.std.specs.Prelude.{List, Option}
use Rattle.chan_types.specs.Plans.{Plan}
use Rattle.chan_types.specs.declared.orders.Orders.{Orders}
use Rattle.chan_types.specs.declared.spec.Spec.{Spec}
use Rattle.channel_model.specs.Commands.{Asking}
use Rattle.net_addr.specs.declared.addr.ServerAddr.{ServerAddr}
use Rattle.ahost_tool.specs.declared.reporting.Report.{Report}
use Rattle.owner_session.specs.Asked.{askings}

-- what is asked: what is put in the end, the requests with the scripts of their callbacks, the orders that callbacks go by, and the servers that are set behind the first turn
pub record Asked : Type 0 where
  pub report : Report
  pub askings : List Asking
  pub orders : Orders
  pub later : Option (List ServerAddr)

-- the same by requests and scripts
abbrev pub asked_of : Report → List Spec → List Plan → Orders → Option (List ServerAddr) → Asked
asked_of report specs plans orders later = record { report = report; askings = askings specs plans; orders = orders; later = later }
