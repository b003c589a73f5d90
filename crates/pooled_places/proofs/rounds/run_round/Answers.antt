use mir.Syntax.{named, ty_unit}
use denote.Exit.{no}
use denote.Param.{arg, param}
use denote.Param.Send.{IsSend, arg_send, param_send}
use Rattle.pooled_places.specs.contracts.deliverer.Deliverer as Deliverer
use Rattle.pooled_places.specs.contracts.ticket.ChannelTicket as ChannelTicket
use Rattle.pooled_places.proofs.SendLemmas.{channel_ticket_send, deliverer_send}
use Rattle.pooled_places.proofs.rounds.run_round.Goals as goal

-- how a parameter's type is named doesn't matter to what it owns
pub run_round-requires-send-T : goal.run_round-requires-send-T
run_round-requires-send-T g c κs within =
    let own : IsSend (ChannelTicket.the_row (record { mir = named 0; lft = κs.1.1.1.1.1.0 }) (param 0 g.row.B) g.B.Done) = channel_ticket_send (param 0 g.row.B) g.B.Done c.type_bounds.send-B (record { mir = named 0; lft = κs.1.1.1.1.1.0 }) in
    let sent = param_send 0 (arg ty_unit no (ChannelTicket.the_row (record { mir = named 0; lft = κs.1.1.1.1.1.0 }) (param 0 g.row.B) g.B.Done)) (arg_send ty_unit no (ChannelTicket.the_row (record { mir = named 0; lft = κs.1.1.1.1.1.0 }) (param 0 g.row.B) g.B.Done) own) in
    record { owned = sent.owned; leaving = sent.leaving }

pub run_round-requires-send-S : goal.run_round-requires-send-S
run_round-requires-send-S g c κs within =
    let own : IsSend (Deliverer.the_row (record { mir = named 0; lft = κs.1.1.1.1.1.0 }) (param 0 g.row.B) (param 1 g.row.R) g.B.Done) = deliverer_send (param 0 g.row.B) g.B.Done c.type_bounds.send-B (record { mir = named 0; lft = κs.1.1.1.1.1.0 }) (param 1 g.row.R) c.type_bounds.sync-R in
    let sent = param_send 1 (arg ty_unit no (Deliverer.the_row (record { mir = named 0; lft = κs.1.1.1.1.1.0 }) (param 0 g.row.B) (param 1 g.row.R) g.B.Done)) (arg_send ty_unit no (Deliverer.the_row (record { mir = named 0; lft = κs.1.1.1.1.1.0 }) (param 0 g.row.B) (param 1 g.row.R) g.B.Done) own) in
    record { owned = sent.owned; leaving = sent.leaving }
