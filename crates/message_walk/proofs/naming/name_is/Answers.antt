use Rattle.std.proofs.Common.{◌∙◌, ◌++◌, [], refl, ap, arith}
use Rattle.std.specs.Prelude.{slice_range}
use Rattle.dns_message.specs.Wire.{labels_in}
use Rattle.dns_message.proofs.Theorems.{name_whole, name_root, name_on, ending, ending_none, ending_some, after_fits}
use Rattle.message_walk.proofs.NamingLemmas.{met_all, met_more, met_none}
use Rattle.message_walk.proofs.naming.name_is.Goals as goal

pub loop-found-init : goal.loop-found-init
loop-found-init c = record {
  before = omega arith;
  some = omega arith;
  few = omega arith;
  first = refl;
  after = tt;
  read = ([], met_none c.args.exact c.as_wire-wire.result.now, name_whole c.args.bytes.now c.args.start ∙ ending_none _);
}

pub returns-in-Root-clause-read : goal.returns-in-Root-clause-read
returns-in-Root-clause-read c =
    let wire = c.as_wire-wire.result.now in
    let seen = c.loop-found.invariant.read in
    let labels = seen.0 ++ labels_in (slice_range c.args.bytes.now c.loop-found.run c.in_ok-found.found.stop) in
    let ran = rw c.in-Root.is at (c.in_ok-found.ensures.read seen.0 seen.1.long) in
    let met = met_more c.args.exact wire c.loop-found.taken c.loop-found.same seen.0 _ c.in_ok-found.found.count _ seen.1 c.in_ok-found.ensures.wire (c.in_ok-found.ensures.taken seen.0 seen.1.long) in (
      labels,
      rw c.unwrap_or.ensures (seen.2 ∙ ap (ending c.loop-found.after) (name_root c.args.bytes.now c.args.start c.loop-found.run seen.0 labels c.in-Root.next ran)),
      rw c.stands_at-same.ensures (met_all c.args.exact wire _ _ labels c.args.name.now met c.in_ok-found.ensures.room c.as_wire-wire.ensures.value c.as_wire-wire.ensures.name),
    )

pub loop-found-preserved : goal.loop-found-preserved
loop-found-preserved c =
    let bytes = c.args.bytes.now in
    let start = c.args.start in
    let wire = c.as_wire-wire.result.now in
    let seen = c.loop-found.invariant.read in
    let labels = seen.0 ++ labels_in (slice_range bytes c.loop-found.run c.in_ok-found.found.stop) in
    let end = rw c.in-Pointer.is at c.in_ok-found.ensures.end in
    let ran = rw c.in-Pointer.is at (c.in_ok-found.ensures.read seen.0 seen.1.long) in
    record {
      before = omega (arith, c.if-run-target.false);
      some = omega (arith, c.loop-found.invariant.some);
      few = c.in_ok-found.ensures.room;
      first = tt;
      after = rw c.unwrap_or-in-Pointer.ensures (after_fits c.loop-found.after start c.loop-found.run c.in-Pointer.at _ c.loop-found.invariant.first c.loop-found.invariant.after end.0 end.1);
      read = (
        labels,
        rw c.stands_at-same.ensures (met_more c.args.exact wire c.loop-found.taken c.loop-found.same seen.0 _ c.in_ok-found.found.count _ seen.1 c.in_ok-found.ensures.wire (c.in_ok-found.ensures.taken seen.0 seen.1.long)),
        rw c.unwrap_or-in-Pointer.ensures (seen.2
            ∙ ap (ending c.loop-found.after) (name_on bytes start c.loop-found.run seen.0 labels c.in-Pointer.at c.in-Pointer.target ran c.if-run-target.false)
            ∙ ending_some c.loop-found.after c.in-Pointer.at _),
      );
    }
