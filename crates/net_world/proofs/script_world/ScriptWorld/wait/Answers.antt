use Rattle.std.proofs.Common.{◌≡◌, arith, rules}
use Rattle.net_world.specs.Script.{earliest}
use Rattle.net_world.proofs.ClockLemmas.{earliest_due, due_or_until}
use Rattle.net_world.proofs.script_world.ScriptWorld.wait.Goals as goal

pub returns-clause-at_once : goal.returns-clause-at_once
returns-clause-at_once c = λ some.
    let early = earliest_due c.args.self.now.clock c.args.until c.args.self.now.items some in
    let moment : c.earliest.result ≡ earliest c.args.until c.args.self.now.items = search rules in
    let clock : c.self.inside.clock ≡ c.args.self.now.clock = search rules in
    omega (arith, early, moment, clock)

pub returns-clause-woken : goal.returns-clause-woken
returns-clause-woken c =
    let moment : c.earliest.result ≡ earliest c.args.until c.self.inside.items.items = search rules in
    due_or_until c.max-self-inside.result c.args.until c.self.inside.items.items (omega (arith, moment))
