use Rattle.std.proofs.Common.{◌≡◌, ◌∷◌, ap, sym, ◌∙◌, length, arith, rules}
use Rattle.text_lines.specs.Left.{lines_left}
use Rattle.test_nameserver.proofs.LineLemmas.{rest_read, line_taken, line_refused, few_lines}
use Rattle.test_nameserver.proofs.zone_reading.read_lines.Goals as goal

pub returns-in-Err : goal.returns-in-Err
returns-in-Err c =
    let step : lines_left c.loop-line.line-iterator ≡ c.in-Some.line.now ∷ lines_left c.next.new.self = search rules in
    let read : rest_read c.loop-line.number c.loop-line.zone (c.in-Some.line.now ∷ lines_left c.next.new.self) ≡ _ = ap (rest_read c.loop-line.number c.loop-line.zone) (sym step) ∙ c.loop-line.invariant.read in
    rw read at (line_refused c.loop-line.number c.loop-line.zone c.in-Some.line.now (lines_left c.next.new.self) c.in-Err.fault c.in-Err.ensures)

pub overflow_add-number : goal.overflow_add-number
overflow_add-number c = omega (arith, c.loop-line.invariant.count, few_lines c.args.text.now, c.requires)

pub loop-line-preserved : goal.loop-line-preserved
loop-line-preserved c =
    let step : lines_left c.loop-line.line-iterator ≡ c.in-Some.line.now ∷ lines_left c.next.new.self = search rules in
    record {
      read = sym (line_taken c.loop-line.number c.loop-line.zone c.in-Some.line.now (lines_left c.next.new.self) c.in-Ok.after c.in-Ok.ensures) ∙ ap (rest_read c.loop-line.number c.loop-line.zone) (sym step) ∙ c.loop-line.invariant.read;
      count = omega (arith, ap length step, c.loop-line.invariant.count);
    }
