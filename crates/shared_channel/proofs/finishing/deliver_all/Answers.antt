use Rattle.shared_channel.proofs.GoingLemmas.{one_delivered}
use Rattle.shared_channel.proofs.finishing.deliver_all.Goals as goal

pub loop-preserved-in-Some-deliver_one : goal.loop-preserved-in-Some-deliver_one
loop-preserved-in-Some-deliver_one g c =
    one_delivered c.args.orders c.in-Some-deliver_one._called c.args.place.now c.loop.place c.deliver_one.new.place c.loop.invariant c.in-Some-deliver_one.ensures

pub loop-preserved : goal.loop-preserved
loop-preserved g c =
    one_delivered c.args.orders c.in-Some-deliver_one._called c.args.place.now c.loop.place c.deliver_one.new.place c.loop.invariant c.in-Some-deliver_one.ensures
