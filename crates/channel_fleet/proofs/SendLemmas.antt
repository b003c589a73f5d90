-- Stands and what a front has may go to other threads, and helms may be lent what they share, where callbacks' bodies, the journal and the network may.
use denote.RattleType.{RattleType}
use denote.Param.Send.{IsSend, IsSync, recorded_send, recorded_sync, sendable, struct_send, struct_sync, view_send, view_sync}
use denote.Ref.{NamedLft}
use denote.Struct.Declared.{shape}
use Rattle.std.proofs.Crossing.{crosses}
use Rattle.channel_journal.specs.declared.journal.ChannelJournal.{Ghosts as JournalGhosts}
use Rattle.completion_ticket.specs.declared.done.Done as done
use Rattle.shared_channel.proofs.SendLemmas as any
use Rattle.watched_value.proofs.publisher.Publisher.TheSendSync as publisher
use Rattle.watched_value.proofs.watcher.Watcher.TheSendSync as watcher
use Rattle.event_runner.proofs.runner.Runner.TheSendSync as runner
use Rattle.channel_model.proofs.answers.Counts.TheSendSync as counts
use Rattle.channel_fleet.proofs.shown.Shown.TheSendSync as shown
use Rattle.channel_fleet.proofs.helm_end.HelmEnd.TheSendSync as helm_end
use Rattle.channel_fleet.specs.contracts.berth.Berth as Berth
use Rattle.channel_fleet.specs.contracts.berth.Berth.TheInside as in_berth
use Rattle.channel_fleet.specs.contracts.pass.FleetPass as FleetPass
use Rattle.channel_fleet.specs.contracts.helm.Helm as Helm
use Rattle.channel_fleet.specs.contracts.helm.Helm.TheInside as in_helm
use Rattle.channel_fleet.specs.contracts.stand.Stand as Stand
use Rattle.channel_fleet.specs.contracts.fleet.Fleet as Fleet
use Rattle.channel_fleet.specs.contracts.fleet.Fleet.TheInside as in_fleet
use Rattle.channel_fleet.specs.contracts.serving.FrontPart as FrontPart
use Rattle.channel_fleet.specs.contracts.serving.Helming as Helming
use Rattle.chan_types.specs.contracts.answer.Answer as Answer
use Rattle.chan_types.specs.contracts.calls.Calls as Calls
use Rattle.shared_channel.specs.contracts.finishing.Finished as Finished
use Rattle.std.proofs.collections.LinkedList.TheSendSync as linked
use Rattle.chan_types.proofs.answer.Answer.TheSendSync as answer
use Rattle.chan_types.proofs.runs.Runs.TheLaws.TheKnot as runs
use Rattle.core.proofs.atomic.AtomicBool.TheSendSync as flag

-- what is left of a channel may be lent to several threads where its journal may
answer_sync : IsSync Answer.the_row
answer_sync = search (answer.the_sync, any.owners, crosses, sendable) depth 60 fits 20000

calls_sync : IsSync Calls.the_row
calls_sync = search (linked.the_sync, answer_sync, any.owners, crosses, runs.crosses, sendable) depth 60 fits 20000

finished_sync : (J : RattleType) → IsSync J → IsSync (Finished.the_row J)
finished_sync J shared =
    recorded_sync (Finished.the_field J).row _ _ (Finished.the_type J).to_one
    (struct_sync (shape (Finished.the_type J)) (search sendable, (shared, (search (calls_sync, sendable) depth 20 fits 20000, (search sendable, tt)))))

module _ (B : RattleType) (g : done.Ghosts B.Denot) (b : IsSend B) (J : RattleType) (k : JournalGhosts J.Denot) (j : IsSend J) where
  in_berth_send : IsSend (in_berth.the_row B J g k)
  in_berth_send = recorded_send (in_berth.the_field B J g k).row _ _ (in_berth.the_type B J g k).to_one (struct_send (shape (in_berth.the_type B J g k)) (search (any.pass_send B g b J k j, sendable) depth 20 fits 20000, (search (watcher.the_send, shown.the_send, crosses, sendable) depth 60 fits 20000, tt)))

  pub berth_send : IsSend (Berth.the_row B J g k)
  berth_send = view_send (in_berth.the_row B J g k) _ _ _ _ in_berth_send

  pub fleet_pass_send : IsSend (FleetPass.the_row B J g k)
  fleet_pass_send = search (berth_send, crosses, sendable) depth 60 fits 20000

  in_helm_send : IsSend (in_helm.the_row B J g k)
  in_helm_send =
      recorded_send (in_helm.the_field B J g k).row _ _ (in_helm.the_type B J g k).to_one
      (struct_send (shape (in_helm.the_type B J g k)) (
        search (any.pass_send B g b J k j, sendable) depth 20 fits 20000,
        (
          search (any.pass_send B g b J k j, sendable) depth 20 fits 20000,
          (
            search (publisher.the_send, shown.the_send, crosses, sendable) depth 60 fits 20000,
            (
              search (any.pass_send B g b J k j, crosses, sendable) depth 60 fits 20000,
              (
                search (any.plain, crosses, sendable) depth 60 fits 20000,
                (
                  search (runner.the_send, any.plain, any.owners, crosses, sendable) depth 60 fits 20000,
                  (search sendable, (search sendable, tt)),
                ),
              ),
            ),
          ),
        ),
      ))

  pub helm_send : IsSend (Helm.the_row B J g k)
  helm_send = view_send (in_helm.the_row B J g k) _ _ _ _ in_helm_send

  pub stand_send : (W : RattleType) → IsSend W → IsSend (Stand.the_row B W J g k)
  stand_send W w =
      recorded_send (Stand.the_field B W J g k).row _ _ (Stand.the_type B W J g k).to_one
      (struct_send (shape (Stand.the_type B W J g k)) (
        search (helm_send, sendable) depth 20 fits 20000,
        (
          w,
          (
            search (helm_end.the_send, any.owners, crosses, sendable) depth 60 fits 20000,
            (search (any.plain, any.owners, counts.the_send, crosses, sendable) depth 60 fits 20000, tt),
          ),
        ),
      ))

  module _ (shared : IsSync J) where
    in_fleet_sync : IsSync (in_fleet.the_row B J g k)
    in_fleet_sync =
        recorded_sync (in_fleet.the_field B J g k).row _ _ (in_fleet.the_type B J g k).to_one
        (struct_sync (shape (in_fleet.the_type B J g k)) (search (any.channel_sync B g b J k j, crosses, sendable) depth 60 fits 20000, (search (finished_sync J shared, crosses, sendable) depth 60 fits 20000, tt)))

    fleet_sync : IsSync (Fleet.the_row B J g k)
    fleet_sync = view_sync (in_fleet.the_row B J g k) _ _ _ _ in_fleet_sync

    pub front_send : (κ : NamedLft) (F : RattleType) → IsSend F → IsSend (FrontPart.the_row κ B J F g k)
    front_send κ F f =
        recorded_send (FrontPart.the_field κ B J F g k).row _ _ (FrontPart.the_type κ B J F g k).to_one
        (struct_send (shape (FrontPart.the_type κ B J F g k))
        (search (fleet_sync, sendable) depth 20 fits 20000, (f, (search (fleet_pass_send, sendable) depth 20 fits 20000, (search (flag.the_sync, sendable) depth 60 fits 20000, tt)))))

    pub helming_sync : (κ : NamedLft) → IsSync (Helming.the_row κ B J g k)
    helming_sync κ =
        recorded_sync (Helming.the_field κ B J g k).row _ _ (Helming.the_type κ B J g k).to_one
        (struct_sync (shape (Helming.the_type κ B J g k)) (search (any.channel_sync B g b J k j, sendable) depth 60 fits 20000, (search (flag.the_sync, sendable) depth 60 fits 20000, (search sendable, tt))))
