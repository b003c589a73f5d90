use Rattle.std.proofs.Common.{not, refl}
use Rattle.net_world.specs.Script.{MayCome}
use Rattle.net_world.specs.World.{is_of_link}
use Rattle.net_world.specs.declared.log.WorldCall.TheVariants.{Close}
use Rattle.test_nameserver.specs.PeerFields.{state_of}
use Rattle.test_nameserver.proofs.LogLemmas.{reached_more}
use Rattle.test_nameserver.proofs.PeerLemmas.{each_kept}
use Rattle.test_nameserver.proofs.peer_world.PeerWorld.close.Goals as goal

pub invariant_of-self-2 : goal.invariant_of-self-2
invariant_of-self-2 c =
    let kept = each_kept MayCome (λ got. not (is_of_link c.args.link got)) c.self.inside.items.items c.self.invariant.come in
    record {
      read = c.self.invariant.read;
      come = rw c.drop_items.ensures kept;
      reached =
          reached_more (Close c.args.link) (state_of c.self.inside) _ c.self.invariant.reached
          (record { state = rw (c.drop_items.ensures, c.drop_open.ensures, c.in_ok-push.ensures.items) refl });
    }
