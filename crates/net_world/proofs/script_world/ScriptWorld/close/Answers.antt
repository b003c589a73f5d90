use Rattle.std.proofs.Common.{rules, not}
use Rattle.std.proofs.lemmas.List.Elements.{All-filter}
use Rattle.net_world.specs.World.{is_of_link}
use Rattle.net_world.specs.Script.{MayCome}
use Rattle.net_world.proofs.script_world.ScriptWorld.close.Goals as goal

pub invariant_of-self-2 : goal.invariant_of-self-2
invariant_of-self-2 c =
    let kept = All-filter (λ item. not (is_of_link c.args.link item.got)) (λ item. MayCome item.got) c.self.inside.items.items c.self.invariant.1 in
    (search rules, rw c.drop_link.ensures kept)
