use Rattle.std.proofs.Common.{arith, ap, map, refl, sym, ◌++◌, ◌∷◌, [], ◌∙◌}
use Rattle.std.proofs.lemmas.List.{map-append}
use Rattle.query_machine.specs.Servers.{failing_of, fresh_servers}
use Rattle.query_machine.proofs.ServerLemmas.{fresh_more}
use Rattle.query_machine.proofs.servers.Servers.make.Goals as goal

pub loop-key-init : goal.loop-key-init
loop-key-init c = rw c.in_ok-counts.ensures.items refl

pub loop-key-preserved : goal.loop-key-preserved
loop-key-preserved c =
    ap (map failing_of) c.in_ok-push.ensures.items ∙ map-append failing_of c.loop-key.counts.items (record { key = c.loop-key.key; failures = 0 } ∷ [])
    ∙ ap (λ servers. servers ++ record { server = c.loop-key.key; count = 0 } ∷ []) c.loop-key.invariant ∙ sym (fresh_more c.loop-key.key)

pub returns : goal.returns
returns c = c.loop-key.invariant ∙ ap fresh_servers (omega (arith, c.loop-key-test.false, c.loop-key.auto.key-end))
