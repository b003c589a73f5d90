use Rattle.std.proofs.Common.{◌≡◌, ◌++◌, length, map, refl, rules}
use Rattle.net_world.specs.declared.answers.Wrote.TheVariants.{Count}
use Rattle.net_world.specs.declared.log.WorldCall.TheVariants.{Write}
use Rattle.test_nameserver.specs.Heard.{got_heard}
use Rattle.test_nameserver.specs.PeerFields.{state_of}
use Rattle.test_nameserver.proofs.LogLemmas.{reached_more}
use Rattle.test_nameserver.proofs.PeerLemmas.{carried_may_come}
use Rattle.test_nameserver.proofs.peer_world.PeerWorld.carry.Goals as goal

pub invariant_of-self-2 : goal.invariant_of-self-2
invariant_of-self-2 c =
    let items : c.note_all.new.items.items ≡ c.self.inside.items.items ++ map got_heard c.in_ok-heard.heard.items = search rules in
    record {
      read = c.self.invariant.read;
      come = carried_may_come _ _ _ _ _ _ items c.in_ok-heard.ensures.gots c.self.invariant.come;
      reached =
          reached_more (Write c.args.link c.args.bytes.now (Count (length c.args.bytes.now))) (state_of c.self.inside) _ c.self.invariant.reached (record { answer = refl; state = search rules });
    }
