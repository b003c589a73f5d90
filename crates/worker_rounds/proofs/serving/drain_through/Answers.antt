use Rattle.std.proofs.Common.{◌∙◌, ap, arith, refl, subst, sym}
use Rattle.shared_channel.specs.Passes.{PassView}
use Rattle.shared_channel.specs.Staying.{AreAt}
use Rattle.worker_rounds.proofs.CrewLemmas.{front}
use Rattle.worker_rounds.proofs.ServingLemmas.{drains_placed}
use Rattle.worker_rounds.proofs.serving.drain_through.Goals as goal

pub place-place-requires : goal.place-place-requires
place-place-requires g c =
    (subst (AreAt c.args.channel.now) (front c.args.passes.now.items c.remove.result c.remove.new.self.items (omega (arith, c.requires.some, c.args.passes.now.ok.0)) c.remove.ensures.value c.remove.ensures.items) c.requires.at).0

pub drain-requires-clause-channel : goal.drain-requires-clause-channel
drain-requires-clause-channel g c =
    ap (λ (p : PassView). p.lock) c.place-place.ensures
    ∙ (subst (AreAt c.args.channel.now) (front c.args.passes.now.items c.remove.result c.remove.new.self.items (omega (arith, c.requires.some, c.args.passes.now.ok.0)) c.remove.ensures.value c.remove.ensures.items) c.requires.at).0
    ∙ sym c.requires.channel

pub unwrap-requires : goal.unwrap-requires
unwrap-requires g c = c.insert.ensures.succeeds (omega (arith, c.remove.ensures.len, c.remove.ensures.capacity, c.args.passes.now.ok.1))

pub returns-clause-drains : goal.returns-clause-drains
returns-clause-drains g c = record {
  first = c.remove.result;
  last = c.leave.result;
  others = c.remove.new.self.items;
  olds_are = front c.args.passes.now.items c.remove.result c.remove.new.self.items (omega (arith, c.requires.some, c.args.passes.now.ok.0)) c.remove.ensures.value c.remove.ensures.items;
  news_are = rw (c.insert.ensures.items, c.unwrap.ensures) refl;
  spent = c.drain.result;
  drains = drains_placed c.args.rights.items c.drain.result c.args.orders c.drain.new.deliverer.orders c.remove.result c.place-place.result c.drain.new.deliverer.place c.leave.result c.place-place.ensures c.drain.ensures.stays.0 c.leave.ensures c.drain.ensures.drains;
}

pub returns-clause-room : goal.returns-clause-room
returns-clause-room g c = omega (arith, c.remove.ensures.capacity, c.insert.ensures.capacity)
