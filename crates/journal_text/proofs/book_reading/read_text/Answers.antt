use Rattle.std.proofs.Common.{rules, ◌≡◌, false, length, ap, arith, refl, ◌∷◌, ◌<◌}
use Rattle.std.proofs.lemmas.List.{length-append}
use Rattle.journal_text.specs.Cuts.{Lacks}
use Rattle.journal_text.specs.Drafts.{TakesLine, TakesNone, is_ended}
use Rattle.journal_text.specs.declared.fault.LineFault.TheVariants.{Bad}
use Rattle.journal_text.proofs.TextLemmas.{read_takes, read_refused, end_with_rest, end_too_early, text_read}
use Rattle.journal_text.proofs.book_reading.read_text.Goals as goal

pub returns-in-Err-Bad-clause-fault : goal.returns-in-Err-Bad-clause-fault
returns-in-Err-Bad-clause-fault c =
    let none : TakesNone c.in-Some.line.now c.lines.draft = c.add_line.ensures.refused (rw (c.in-Err-Bad.is, c.in-Err-Bad.field-0-is) refl) in
    (c.requires, read_refused c.args.text.now c.lines.draft c.lines.rest.now c.in-Some.line.now c.in-Some.behind.now c.lines.lines c.lines.invariant.read c.in-Some.ensures.0 c.in-Some.ensures.1 none)

pub lines-preserved : goal.lines-preserved
lines-preserved c =
    let takes : TakesLine c.in-Some.line.now c.lines.draft c.add_line.new.draft = search rules in
    record {
      read = read_takes c.args.text.now c.lines.draft c.add_line.new.draft c.lines.rest.now c.in-Some.line.now c.in-Some.behind.now c.lines.lines c.lines.invariant.read c.in-Some.ensures.0 takes;
      short = omega (arith, c.lines.invariant.short, ap length c.in-Some.ensures.0, length-append c.in-Some.line.now (10 ∷ c.in-Some.behind.now));
    }

pub returns-clause-read : goal.returns-clause-read
returns-clause-read c =
    text_read c.args.text.now c.lines.draft c.lines.rest.now c.lines.lines _ c.requires c.lines.invariant.read (search rules) (search rules) (search rules)

pub returns-then-rest-gt0-clause-fault : goal.returns-then-rest-gt0-clause-fault
returns-then-rest-gt0-clause-fault c =
    let lacks : Lacks 10 c.lines.rest.now = search rules in
    let more : 0 < length c.lines.rest.now = search rules in
    (c.requires, end_with_rest c.args.text.now c.lines.draft c.lines.rest.now c.lines.lines c.lines.invariant.read lacks more)

pub returns-then-not-is_ended-clause-fault : goal.returns-then-not-is_ended-clause-fault
returns-then-not-is_ended-clause-fault c =
    let lacks : Lacks 10 c.lines.rest.now = search rules in
    let unended : is_ended c.lines.draft ≡ false = search rules in
    (c.requires, end_too_early c.args.text.now c.lines.draft c.lines.rest.now c.lines.lines c.lines.invariant.read lacks unended)
