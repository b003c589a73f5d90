use Rattle.std.proofs.Common.{◌∙◌, sym, arith}
use Rattle.dns_message.specs.Shapes.{strings_of}
use Rattle.dns_message.proofs.StringLemmas.{counted_none, strings_cut, strings_more, strings_end}
use Rattle.dns_message.proofs.shape.string_count.Goals as goal

pub loop-at-init : goal.loop-at-init
loop-at-init c = record { few = omega arith; within = omega arith; read = sym (counted_none (strings_of c.args.bytes.now)) }

pub returns-then-bytes-at : goal.returns-then-bytes-at
returns-then-bytes-at c = sym (c.loop-at.invariant.read ∙ strings_cut c.args.bytes.now c.loop-at.at c.loop-at.count c.loop-at-test.true c.if-bytes-at.true)

pub loop-at-preserved : goal.loop-at-preserved
loop-at-preserved c = record {
  few = omega arith;
  within = omega arith;
  read = c.loop-at.invariant.read ∙ strings_more c.args.bytes.now c.loop-at.at c.loop-at.count c.loop-at-test.true c.if-bytes-at.false;
}

pub returns : goal.returns
returns c = sym (c.loop-at.invariant.read ∙ strings_end c.args.bytes.now c.loop-at.at c.loop-at.count c.loop-at-test.false)
