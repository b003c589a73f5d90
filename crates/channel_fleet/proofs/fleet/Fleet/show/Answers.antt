use Rattle.std.proofs.Common.{subst, sym}
use Rattle.channel_fleet.specs.Calling.{ShowsBerth}
use Rattle.channel_fleet.specs.Views.{IsAtFleet}
use Rattle.channel_fleet.proofs.CallingLemmas.{changes_nth}
use Rattle.channel_fleet.proofs.fleet.Fleet.show.Goals as goal

pub returns : goal.returns
returns g c =
    rw (← c.pass.view_is)
    (changes_nth c.args.channel (ShowsBerth c.show_at.result) c.args.self.now c.pass.inside.berths.items c.index_mut.result.now c.show_at.new.berth
    (subst (IsAtFleet c.args.self.now) (sym c.pass.view_is) c.requires.at) c.requires.here c.index_mut.ensures.value c.show_at.ensures)
