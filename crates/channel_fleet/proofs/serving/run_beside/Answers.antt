use Rattle.std.proofs.Common.{◌<◌, ◌∙◌, length, subst, sym}
use Rattle.std.specs.Prelude.{slice_index_or}
use Rattle.atomic_table.specs.Seated.{TableId}
use Rattle.channel_fleet.specs.Beside.{MayEach}
use Rattle.channel_fleet.specs.Stands.{IsAtLock}
use mir.Syntax.{named, ty_unit}
use denote.Exit.{no}
use denote.Param.{arg, param}
use denote.Param.Send.{IsSend, IsSync, arg_send, arg_sync, param_send, param_sync}
use Rattle.channel_fleet.proofs.SendLemmas.{front_send, helming_sync, stand_send}
use Rattle.channel_fleet.proofs.StandLemmas.{helms_may}
use Rattle.channel_fleet.specs.contracts.serving.FrontPart as FrontPart
use Rattle.channel_fleet.specs.contracts.serving.Helming as Helming
use Rattle.channel_fleet.specs.contracts.stand.Stand as Stand
use Rattle.channel_fleet.proofs.serving.run_beside.Goals as goal

-- how a parameter's type is named doesn't matter to what it owns
pub beside-requires-send-M : goal.beside-requires-send-M
beside-requires-send-M g c κs within =
    let own : IsSend (FrontPart.the_row (record { mir = named 8; lft = κs.1.1.1.1.1.1.1.1.0 }) (param 0 g.row.B) (param 4 g.row.J) (param 2 g.row.F) g.B.Done g.J.ChannelJournal) =
    front_send (param 0 g.row.B) g.B.Done c.type_bounds.send-B (param 4 g.row.J) g.J.ChannelJournal c.type_bounds.send-J c.type_bounds.sync-J (record { mir = named 8; lft = κs.1.1.1.1.1.1.1.1.0 }) (param 2 g.row.F) c.type_bounds.send-F in
    let sent = param_send 0 (arg ty_unit no (FrontPart.the_row (record { mir = named 8; lft = κs.1.1.1.1.1.1.1.1.0 }) (param 0 g.row.B) (param 4 g.row.J) (param 2 g.row.F) g.B.Done g.J.ChannelJournal)) (arg_send ty_unit no (FrontPart.the_row (record { mir = named 8; lft = κs.1.1.1.1.1.1.1.1.0 }) (param 0 g.row.B) (param 4 g.row.J) (param 2 g.row.F) g.B.Done g.J.ChannelJournal) own) in
    record { owned = sent.owned; leaving = sent.leaving }

pub beside-requires-sync-C : goal.beside-requires-sync-C
beside-requires-sync-C g c κs within =
    let own : IsSync (Helming.the_row (record { mir = named 5; lft = κs.1.1.1.1.1.0 }) (param 0 g.row.B) (param 4 g.row.J) g.B.Done g.J.ChannelJournal) =
    helming_sync (param 0 g.row.B) g.B.Done c.type_bounds.send-B (param 4 g.row.J) g.J.ChannelJournal c.type_bounds.send-J c.type_bounds.sync-J (record { mir = named 5; lft = κs.1.1.1.1.1.0 }) in
    let sent = param_sync 1 (arg ty_unit no (Helming.the_row (record { mir = named 5; lft = κs.1.1.1.1.1.0 }) (param 0 g.row.B) (param 4 g.row.J) g.B.Done g.J.ChannelJournal)) (arg_sync ty_unit no (Helming.the_row (record { mir = named 5; lft = κs.1.1.1.1.1.0 }) (param 0 g.row.B) (param 4 g.row.J) g.B.Done g.J.ChannelJournal) own) in
    record { shared = sent.shared }

pub beside-requires-send-T : goal.beside-requires-send-T
beside-requires-send-T g c κs within =
    let own : IsSend (Stand.the_row (param 0 g.row.B) (param 1 g.row.W) (param 4 g.row.J) g.B.Done g.J.ChannelJournal) = stand_send (param 0 g.row.B) g.B.Done c.type_bounds.send-B (param 4 g.row.J) g.J.ChannelJournal c.type_bounds.send-J (param 1 g.row.W) c.type_bounds.send-W in
    let sent = param_send 2 (arg ty_unit no (Stand.the_row (param 0 g.row.B) (param 1 g.row.W) (param 4 g.row.J) g.B.Done g.J.ChannelJournal)) (arg_send ty_unit no (Stand.the_row (param 0 g.row.B) (param 1 g.row.W) (param 4 g.row.J) g.B.Done g.J.ChannelJournal) own) in
    record { owned = sent.owned; leaving = sent.leaving }

pub beside-requires-clause-may : goal.beside-requires-clause-may
beside-requires-clause-may g c κs within =
    subst (λ locks. MayEach (λ index stand. (index < length locks) × ((lock : TableId) → IsAtLock (slice_index_or locks index lock) stand.helm)) c.args.stands.now) (sym c.fleet.view_is ∙ sym c.deref.ensures.value)
    (helms_may c.args.fleet.now c.args.stands.now c.requires.helms)
