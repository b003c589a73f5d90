use Rattle.dns_message.proofs.PointerLemmas.{pointed, stands}
use Rattle.dns_message.proofs.decoding.owner_at.Goals as goal

pub returns-then-place-known-clause-read : goal.returns-then-place-known-clause-read
returns-then-place-known-clause-read c =
    let known = rw c.in-Some.is at c.requires.known in
    rw c.in_ok-name.ensures (pointed c.args.bytes.now c.args.at c.labels_start-place.result (c.labels_start-place.ensures c.if-place-at.true) c.in-Some.known.name.now (rw c.if-place-known.true known))

pub returns-clause-stands : goal.returns-clause-stands
returns-clause-stands c = stands c.args.bytes.now c.args.at c.labels_start-place.result c.in_ok-name-2.name c.in_ok-name-2.next c.labels_start-place.ensures c.in_ok-name-2.ensures.read
