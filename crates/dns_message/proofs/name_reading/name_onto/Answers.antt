use Rattle.std.proofs.Common.{ℕ, List, ◌∙◌, [], ◌∷◌, ◌++◌, refl, ap, sym, append_assoc, append-nil, arith}
use Rattle.std.specs.Prelude.{slice_range}
use Rattle.dns_message.specs.Wire.{labels_in}
use Rattle.dns_message.proofs.RunLemmas.{name_whole, name_root, name_on, ending, ending_none, ending_some, after_fits}
use Rattle.dns_message.proofs.WireLemmas.{written_more}
use Rattle.dns_message.proofs.name_reading.name_onto.Goals as goal

pub loop-found-init : goal.loop-found-init
loop-found-init c = record {
  before = omega arith;
  some = omega arith;
  few = omega arith;
  first = refl;
  after = tt;
  read = ([], refl, name_whole c.args.bytes.now c.args.start ∙ ending_none _, sym (append-nil _));
}

pub returns-in-Root-clause-read : goal.returns-in-Root-clause-read
returns-in-Root-clause-read c =
    let bytes = c.args.bytes.now in
    let seen = c.loop-found.invariant.read in
    let ran = rw c.in-Root.is at (c.in_ok-found.ensures.read seen.0 seen.1) in
    let written = c.in_ok-extend_from_slice.ensures.items ∙ written_more _ _ _ seen.0 seen.3 c.in_ok-found.ensures.wire.spelled in (
      seen.0 ++ labels_in (slice_range bytes c.loop-found.run c.in_ok-found.found.stop),
      rw c.unwrap_or.ensures (seen.2 ∙ ap (ending c.loop-found.after) (name_root bytes c.args.start c.loop-found.run seen.0 _ c.in-Root.next ran)),
      c.in_ok-push-in-Root.ensures.items ∙ ap (λ (front : List ℕ). front ++ 0 ∷ []) written ∙ append_assoc _ _ (0 ∷ []),
    )

pub loop-found-preserved : goal.loop-found-preserved
loop-found-preserved c =
    let bytes = c.args.bytes.now in
    let start = c.args.start in
    let seen = c.loop-found.invariant.read in
    let end = rw c.in-Pointer.is at c.in_ok-found.ensures.end in
    let ran = rw c.in-Pointer.is at (c.in_ok-found.ensures.read seen.0 seen.1) in
    record {
      before = omega (arith, c.if-run-target.false);
      some = omega (arith, c.loop-found.invariant.some);
      few = c.in_ok-found.ensures.room;
      first = tt;
      after = rw c.unwrap_or-in-Pointer.ensures (after_fits c.loop-found.after start c.loop-found.run c.in-Pointer.at _ c.loop-found.invariant.first c.loop-found.invariant.after end.0 end.1);
      read = (
        _,
        c.in_ok-found.ensures.taken seen.0 seen.1,
        rw c.unwrap_or-in-Pointer.ensures (seen.2
            ∙ ap (ending c.loop-found.after) (name_on bytes start c.loop-found.run seen.0 _ c.in-Pointer.at c.in-Pointer.target ran c.if-run-target.false)
            ∙ ending_some c.loop-found.after c.in-Pointer.at _),
        c.in_ok-extend_from_slice.ensures.items ∙ written_more _ _ _ seen.0 seen.3 c.in_ok-found.ensures.wire.spelled,
      );
    }
