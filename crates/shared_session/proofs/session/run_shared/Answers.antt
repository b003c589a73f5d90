use Rattle.std.proofs.Common.{◌∷◌, ◌+◌, ap, arith, refl, subst, sym}
use Rattle.channel_model.specs.Setting.{Setting}
use Rattle.shared_channel.proofs.Theorems.{all_at}
use Rattle.shared_channel.specs.Finishing.{AreAllPasses, Finishes}
use Rattle.shared_channel.specs.Making.{IsNewChannel}
use Rattle.shared_channel.specs.Passes.{PassView}
use Rattle.shared_channel.specs.Settling.{AreSettled}
use Rattle.shared_session.specs.Asking.{askings}
use Rattle.shared_session.specs.Session.{IsSession}
use Rattle.shared_session.specs.Turns.{standing_at}
use Rattle.shared_session.proofs.SessionLemmas.{all_passes, is_session, none_outside}
use Rattle.shared_session.proofs.StartLemmas.{stands_before, tells_all}
use Rattle.shared_session.proofs.TurnsLemmas.{asked_at}
use Rattle.shared_session.proofs.session.run_shared.Goals as goal

pub returns-in_default-clause-unmade : goal.returns-in_default-clause-unmade
returns-in_default-clause-unmade g c = λ none. c.in_default.ensures.opens

pub returns-in_default-make-clause-unmade : goal.returns-in_default-make-clause-unmade
returns-in_default-make-clause-unmade g c = λ none. tells_all c.args.setting.0.servers (g.W.World.log c.args.world) (g.W.World.log c.make.new.world) c.in-Ok.ensures.opens.1

pub ask_all-first-requires : goal.ask_all-first-requires
ask_all-first-requires g c =
    let setting : Setting = record { options = c.args.setting.0; hosts = c.args.setting.1 } in
    let made = subst (IsNewChannel c.in-Ok-make.channel setting (c.args.task.workers + 2)) (sym c.parts_of-first.ensures.parts) c.in-Ok-make.ensures in
    (all_at c.in-Ok-make.channel setting (c.args.task.workers + 2) (c.parts_of-first.result.0 ∷ c.parts_of-first.result.1.owner ∷ c.parts_of-first.result.1.workers.items) made).0

pub run_turns-end-requires-clause-at : goal.run_turns-end-requires-clause-at
run_turns-end-requires-clause-at g c κs within =
    let setting : Setting = record { options = c.args.setting.0; hosts = c.args.setting.1 } in
    let made = subst (IsNewChannel c.in-Ok-make.channel setting (c.args.task.workers + 2)) (sym c.parts_of-first.ensures.parts) c.in-Ok-make.ensures in
    asked_at c.in-Ok-make.channel setting (c.args.task.workers + 2) c.args.task.requests.items c.ask_all-first.result.1 c.parts_of-first.result.0 c.ask_all-first.result.0 c.parts_of-first.result.1.owner c.parts_of-first.result.1.workers.items made c.ask_all-first.ensures

pub finish-finished-requires-clause-all : goal.finish-finished-requires-clause-all
finish-finished-requires-clause-all g c =
    let setting : Setting = record { options = c.args.setting.0; hosts = c.args.setting.1 } in
    let made = subst (IsNewChannel c.in-Ok-make.channel setting (c.args.task.workers + 2)) (sym c.parts_of-first.ensures.parts) c.in-Ok-make.ensures in
    let turns = c.run_turns-end.ensures.turns in
    let before = standing_at c.ask_all-first.result.0 c.in-Ok.runner c.args.task.turns c.args.task.later (g.W.World.log c.make.new.world) (g.W.World.wait_faults c.make.new.world) in
    subst (AreAllPasses c.in-Ok-make.channel) (sym turns.passes_are)
    (all_passes c.in-Ok-make.channel setting (c.args.task.workers + 2) c.args.task.requests.items c.ask_all-first.result.1 c.parts_of-first.result.0 c.ask_all-first.result.0 turns.last c.parts_of-first.result.1.owner turns.owner_new c.parts_of-first.result.1.workers.items turns.workers_new
    before turns.after made c.ask_all-first.ensures refl turns.stands turns.gone.turner turns.still)

pub finish-finished-requires-clause-settled : goal.finish-finished-requires-clause-settled
finish-finished-requires-clause-settled g c =
    let setting : Setting = record { options = c.args.setting.0; hosts = c.args.setting.1 } in
    let made = subst (IsNewChannel c.in-Ok-make.channel setting (c.args.task.workers + 2)) (sym c.parts_of-first.ensures.parts) c.in-Ok-make.ensures in
    let turns = c.run_turns-end.ensures.turns in
    let before = standing_at c.ask_all-first.result.0 c.in-Ok.runner c.args.task.turns c.args.task.later (g.W.World.log c.make.new.world) (g.W.World.wait_faults c.make.new.world) in
    subst AreSettled (sym turns.passes_are)
    (none_outside c.in-Ok-make.channel setting (c.args.task.workers + 2) c.args.task.requests.items c.ask_all-first.result.1 c.parts_of-first.result.0 c.ask_all-first.result.0 turns.last c.parts_of-first.result.1.owner turns.owner_new c.parts_of-first.result.1.workers.items turns.workers_new
    before turns.after made c.ask_all-first.ensures refl turns.stands turns.gone.turner turns.settled)

pub returns-clause-session : goal.returns-clause-session
returns-clause-session g c =
    let setting : Setting = record { options = c.args.setting.0; hosts = c.args.setting.1 } in
    let count = c.args.task.workers + 2 in
    let made = subst (IsNewChannel c.in-Ok-make.channel setting (c.args.task.workers + 2)) (sym c.parts_of-first.ensures.parts) c.in-Ok-make.ensures in
    let turns = c.run_turns-end.ensures.turns in
    let new = c.parts_of-first.result.0 in
    let first = c.ask_all-first.result.0 in
    let before = standing_at c.ask_all-first.result.0 c.in-Ok.runner c.args.task.turns c.args.task.later (g.W.World.log c.make.new.world) (g.W.World.wait_faults c.make.new.world) in
    let new_is = made.each 0 new (omega arith) in
    let stands = stands_before c.args.task.requests.items c.ask_all-first.result.1 new first c.args.setting.0 c.args.task.turns c.args.task.later (g.W.World.log c.args.world) before c.ask_all-first.ensures (ap (λ (p : PassView). p.seen) new_is) (sym (ap (λ (p : PassView). p.setting.options) new_is))
    refl refl refl refl refl c.in-Ok.ensures.fresh c.in-Ok.ensures.opens in
    subst (IsSession (λ journal. journal.entries.items) setting (askings c.args.task.requests.items) c.args.task.orders c.args.task.later c.args.task.workers c.args.task.turns c.run_turns-end.result.end c.finish-finished.result (g.W.World.log c.args.world)) turns.log
    (is_session (λ journal. journal.entries.items) c.args.task.orders c.in-Ok-make.channel setting count c.args.task.requests.items c.ask_all-first.result.1 new first turns.last c.parts_of-first.result.1.owner turns.owner_new c.parts_of-first.result.1.workers.items turns.workers_new before turns.after c.run_turns-end.result.end c.finish-finished.result
    (record {
      made = made;
      asks = c.ask_all-first.ensures;
      stood = refl;
      stands = turns.stands;
      gone = turns.gone;
      ends = turns.ends;
      between = turns.between;
      refused = turns.refused;
      finishes = subst (λ passes. Finishes (λ journal. journal.entries.items) c.args.task.orders passes c.finish-finished.result) turns.passes_are c.finish-finished.ensures;
    })
    c.args.task.workers c.args.task.turns c.args.task.later (g.W.World.log c.args.world) refl stands)
