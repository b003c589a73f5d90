use Rattle.std.proofs.Common.{◌∙◌, refl, ap, arith}
use Rattle.std.proofs.lemmas.Result.{err_from_is_err_and}
use Rattle.dns_message.proofs.RunLemmas.{name_whole, name_stops, name_root, name_bad, name_on, ending, ending_none, ending_some, after_fits}
use Rattle.dns_message.proofs.name_reading.name_at.Goals as goal

pub loop-name-init : goal.loop-name-init
loop-name-init c = record {
  before = omega arith;
  first = refl;
  after = tt;
  read = rw c.root-name.ensures (name_whole c.args.bytes.now c.args.start ∙ ending_none _);
}

pub returns-in_err-next-clause-read : goal.returns-in_err-next-clause-read
returns-in_err-next-clause-read c =
    let p = err_from_is_err_and c.from_residual.result c.from_residual.ensures.1 in
    rw (p.1, p.2) (λ ne. c.loop-name.invariant.read
    ∙ ap (ending c.loop-name.after) (name_stops c.args.bytes.now c.args.start c.loop-name.run c.loop-name.name c.in_err-next.field-0.0 (c.in_err-next.ensures.read ne)))

pub returns-in-Root-clause-read : goal.returns-in-Root-clause-read
returns-in-Root-clause-read c =
    rw c.unwrap_or.ensures (c.loop-name.invariant.read
    ∙ ap (ending c.loop-name.after) (name_root c.args.bytes.now c.args.start c.loop-name.run c.loop-name.name c.add_run.new.name c.in-Root.next (rw c.in-Root.is at c.in_ok-next.ensures.read)))

pub returns-then-target-run-clause-read : goal.returns-then-target-run-clause-read
returns-then-target-run-clause-read c = λ _.
    c.loop-name.invariant.read
    ∙ ap (ending c.loop-name.after) (name_bad c.args.bytes.now c.args.start c.loop-name.run c.loop-name.name c.add_run.new.name c.in-Pointer.at c.in-Pointer.target (rw c.in-Pointer.is at c.in_ok-next.ensures.read) c.if-target-run.true)

pub loop-name-preserved : goal.loop-name-preserved
loop-name-preserved c =
    let end = rw c.in-Pointer.is at c.in_ok-next.ensures.end in
    record {
      before = omega (arith, c.if-target-run.false);
      first = tt;
      after = rw c.unwrap_or-in-Pointer.ensures (after_fits c.loop-name.after c.args.start c.loop-name.run c.in-Pointer.at _ c.loop-name.invariant.first c.loop-name.invariant.after end.0 end.1);
      read = rw c.unwrap_or-in-Pointer.ensures (c.loop-name.invariant.read
          ∙ ap (ending c.loop-name.after) (name_on c.args.bytes.now c.args.start c.loop-name.run c.loop-name.name c.add_run.new.name c.in-Pointer.at c.in-Pointer.target (rw c.in-Pointer.is at c.in_ok-next.ensures.read) c.if-target-run.false)
          ∙ ending_some c.loop-name.after c.in-Pointer.at _);
    }
