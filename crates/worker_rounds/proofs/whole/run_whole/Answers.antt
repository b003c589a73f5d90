use Rattle.std.proofs.Common.{◌+◌, ◌∷◌, arith, subst, sym}
use Rattle.channel_model.specs.Setting.{Setting}
use Rattle.shared_channel.proofs.Theorems.{all_at}
use Rattle.shared_channel.specs.Finishing.{AreAllPasses, Finishes}
use Rattle.shared_channel.specs.Making.{IsNewChannel}
use Rattle.shared_channel.specs.Settling.{AreSettled}
use Rattle.worker_rounds.proofs.WholeLemmas.{asked_at, asked_settled, served_all, still_len}
use Rattle.worker_rounds.proofs.whole.run_whole.Goals as goal

pub team_of-owner-requires : goal.team_of-owner-requires
team_of-owner-requires g c = omega (arith, c.in_ok-channel.ensures.all, c.in_ok-channel.passes.ok.0)

pub ask_all-owner-requires : goal.ask_all-owner-requires
ask_all-owner-requires g c =
    let setting : Setting = record { options = c.args.setting.0; hosts = c.args.setting.1 } in
    let made = subst (IsNewChannel c.in_ok-channel.channel setting (c.args.plan.workers + 1)) (sym c.team_of-owner.ensures.parts) c.in_ok-channel.ensures in
    (all_at c.in_ok-channel.channel setting (c.args.plan.workers + 1) (c.team_of-owner.result.owner ∷ c.team_of-owner.result.workers.items) made).0

pub serve-team-requires-clause-some : goal.serve-team-requires-clause-some
serve-team-requires-clause-some g c κs within = (
  omega (arith, c.in_ok-channel.ensures.all, c.in_ok-channel.passes.ok.0, c.team_of-owner.ensures.len, c.requires.workers.0),
  omega (arith, c.in_ok-channel.ensures.all, c.in_ok-channel.passes.ok.0, c.team_of-owner.ensures.len, c.requires.workers.1),
)

pub serve-team-requires-clause-at : goal.serve-team-requires-clause-at
serve-team-requires-clause-at g c κs within =
    let setting : Setting = record { options = c.args.setting.0; hosts = c.args.setting.1 } in
    let made = subst (IsNewChannel c.in_ok-channel.channel setting (c.args.plan.workers + 1)) (sym c.team_of-owner.ensures.parts) c.in_ok-channel.ensures in
    asked_at c.in_ok-channel.channel setting (c.args.plan.workers + 1) c.args.requests.items c.team_of-owner.result.owner c.ask_all-owner.result c.team_of-owner.result.workers.items made c.ask_all-owner.ensures

pub passes_of-requires : goal.passes_of-requires
passes_of-requires g c =
    omega (arith, still_len c.team_of-owner.result.workers.items c.serve-team.result.team.workers.items c.serve-team.ensures.still.1, c.serve-team.ensures.room, c.team_of-owner.ensures.room, c.serve-team.result.team.workers.ok.0, c.team_of-owner.result.workers.ok.0)

pub finish-finished-requires-clause-all : goal.finish-finished-requires-clause-all
finish-finished-requires-clause-all g c =
    let setting : Setting = record { options = c.args.setting.0; hosts = c.args.setting.1 } in
    let made = subst (IsNewChannel c.in_ok-channel.channel setting (c.args.plan.workers + 1)) (sym c.team_of-owner.ensures.parts) c.in_ok-channel.ensures in
    subst (AreAllPasses c.in_ok-channel.channel) (sym c.passes_of.ensures)
    (served_all c.in_ok-channel.channel setting (c.args.plan.workers + 1) c.args.requests.items c.team_of-owner.result.owner c.ask_all-owner.result c.team_of-owner.result.workers.items (c.serve-team.result.team.owner ∷ c.serve-team.result.team.workers.items) made (omega arith) c.ask_all-owner.ensures c.serve-team.ensures.still)

pub finish-finished-requires-clause-settled : goal.finish-finished-requires-clause-settled
finish-finished-requires-clause-settled g c =
    let setting : Setting = record { options = c.args.setting.0; hosts = c.args.setting.1 } in
    let made = subst (IsNewChannel c.in_ok-channel.channel setting (c.args.plan.workers + 1)) (sym c.team_of-owner.ensures.parts) c.in_ok-channel.ensures in
    subst AreSettled (sym c.passes_of.ensures)
    (c.serve-team.ensures.settled (asked_settled c.in_ok-channel.channel setting (c.args.plan.workers + 1) c.args.requests.items c.team_of-owner.result.owner c.ask_all-owner.result c.team_of-owner.result.workers.items made c.ask_all-owner.ensures))

pub returns : goal.returns
returns g c =
    let setting : Setting = record { options = c.args.setting.0; hosts = c.args.setting.1 } in
    record {
      lock = c.in_ok-channel.channel;
      owner = c.team_of-owner.result.owner;
      workers = c.team_of-owner.result.workers.items;
      made = subst (IsNewChannel c.in_ok-channel.channel setting (c.args.plan.workers + 1)) (sym c.team_of-owner.ensures.parts) c.in_ok-channel.ensures;
      asked = c.ask_all-owner.result;
      asks = c.ask_all-owner.ensures;
      owner_new = c.serve-team.result.team.owner;
      workers_new = c.serve-team.result.team.workers.items;
      serves = c.serve-team.ensures.serves;
      finishes = subst (λ passes. Finishes (λ journal. journal.entries.items) c.args.plan.orders passes c.finish-finished.result) c.passes_of.ensures c.finish-finished.ensures;
    }
