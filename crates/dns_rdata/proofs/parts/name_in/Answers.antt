use Rattle.std.proofs.Common.{◌≡◌, map}
use Rattle.dns_message.specs.Name.{IsName}
use Rattle.dns_rdata.proofs.PartsLemmas.{named, unnamed, has_cause}
use Rattle.dns_rdata.proofs.parts.name_in.Goals as goal

pub returns-in-Ok : goal.returns-in-Ok
returns-in-Ok c =
    let made : c.in-Ok.name ≡ map (λ label. label.now) c.in_ok-labels.labels.items = rw c.deref.ensures.value at c.in-Ok.ensures.made in
    named c.args.bytes.now c.in-Ok.name c.in_ok-labels.rest.now (rw made c.in_ok-labels.ensures) c.wire_len.ensures.name

pub returns : goal.returns
returns c other =
    let cause : ¬ IsName (map (λ label. label.now) c.in_ok-labels.labels.items) = has_cause _ c.in-Err.fault (rw c.deref.ensures.value at c.in-Err.ensures.refused) (c.bad_unless_memory.ensures other) in
    unnamed c.args.bytes.now _ c.in_ok-labels.rest.now c.in_ok-labels.ensures cause
