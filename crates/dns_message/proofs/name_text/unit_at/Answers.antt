use Rattle.std.proofs.Common.{◌≤◌, ◌+◌, length, refl, arith}
use Rattle.std.proofs.lemmas.List.{length-drop}
use Rattle.dns_message.proofs.UnitLemmas.{units_dot, units_plain, units_escaped, units_bad, rest_is}
use Rattle.dns_message.proofs.SpotLemmas.{spots_dot, spots_plain, spots_escaped, spots_bad}
use Rattle.dns_message.proofs.name_text.unit_at.Goals as goal

pub returns-then-byte-eq46-clause-read : goal.returns-then-byte-eq46-clause-read
returns-then-byte-eq46-clause-read c = units_dot c.args.text.now c.args.at c.requires c.if-byte-eq46.true

pub returns-then-byte-ne92-clause-read : goal.returns-then-byte-ne92-clause-read
returns-then-byte-ne92-clause-read c = units_plain c.args.text.now c.args.at c.requires c.if-byte-eq46.false c.if-byte-ne92.true

pub returns-in-Some-clause-read : goal.returns-in-Some-clause-read
returns-in-Some-clause-read c = units_escaped c.args.text.now c.args.at c.in-Some.byte c.in-Some.len c.requires c.if-byte-ne92.false (rw (rest_is c.args.text.now (c.args.at + 1)) at c.in-Some.ensures.read)

pub returns-in-None-clause-refused : goal.returns-in-None-clause-refused
returns-in-None-clause-refused c = units_bad c.args.text.now c.args.at c.requires c.if-byte-ne92.false (rw (rest_is c.args.text.now (c.args.at + 1)) at c.in-None.ensures.read)

pub returns-then-byte-eq46-clause-placed : goal.returns-then-byte-eq46-clause-placed
returns-then-byte-eq46-clause-placed c = spots_dot c.args.text.now c.args.at c.requires c.if-byte-eq46.true

pub returns-then-byte-ne92-clause-placed : goal.returns-then-byte-ne92-clause-placed
returns-then-byte-ne92-clause-placed c = spots_plain c.args.text.now c.args.at c.requires c.if-byte-eq46.false c.if-byte-ne92.true

pub returns-in-Some-clause-placed : goal.returns-in-Some-clause-placed
returns-in-Some-clause-placed c =
    let within = rw (rest_is c.args.text.now (c.args.at + 1)) at c.in-Some.ensures.within in
    let fits : c.args.at + 1 + c.in-Some.len ≤ length c.args.text.now = omega (arith, within, length-drop (c.args.at + 1) c.args.text.now, c.requires) in
    spots_escaped c.args.text.now c.args.at c.requires c.in-Some.byte c.in-Some.len c.if-byte-ne92.false (rw (rest_is c.args.text.now (c.args.at + 1)) at c.in-Some.ensures.read) fits

pub returns-in-None-clause-placed : goal.returns-in-None-clause-placed
returns-in-None-clause-placed c = (refl, spots_bad c.args.text.now c.args.at c.requires c.if-byte-ne92.false (rw (rest_is c.args.text.now (c.args.at + 1)) at c.in-None.ensures.read))
