use Rattle.std.proofs.Common.{subst, sym}
use Rattle.channel_fleet.specs.Calling.{CallsBerth}
use Rattle.channel_fleet.specs.Views.{IsAtFleet}
use Rattle.channel_fleet.proofs.CallingLemmas.{changes_nth}
use Rattle.channel_model.specs.Meanings.{Accepts}
use Rattle.shared_channel.specs.Under.{plan_of}
use Rattle.channel_fleet.proofs.fleet.Fleet.ask_nth.Goals as goal

pub returns : goal.returns
returns g c =
    rw (← c.pass.view_is)
    (changes_nth c.args.index (CallsBerth (Accepts plan_of c.args.spec c.args.callback c.ask_at.result)) c.args.self.now c.pass.inside.berths.items c.index_mut.result.now c.ask_at.new.berth
    (subst (IsAtFleet c.args.self.now) (sym c.pass.view_is) c.requires.at) c.requires.here c.index_mut.ensures.value c.ask_at.ensures)
