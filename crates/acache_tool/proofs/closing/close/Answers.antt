use Rattle.std.proofs.Common.{refl}
use Rattle.chan_types.specs.Plans.{blank}
use Rattle.acache_tool.proofs.CloseLemmas.{closes_none, closes_some}
use Rattle.acache_tool.proofs.closing.close.Goals as goal

pub returns-in-Some : goal.returns-in-Some
returns-in-Some c =
    closes_some c.destroy.result c.args.alone.now c.destroy.new.self c.take.new.self c.args.calls.now c.requires.silent c.requires.undestroyed c.destroy.ensures.done {T = Unit {0}} (λ quiet. blank 0) c.in-Some.ticket c.in-Some.ticket.call
    c.call_for.new.calls refl c.call_for.ensures (rw c.in-Some.is at c.take.ensures.done)

pub returns-in-None : goal.returns-in-None
returns-in-None c =
    closes_none c.destroy.result c.args.alone.now c.destroy.new.self c.take.new.self c.args.calls.now c.requires.silent c.requires.undestroyed c.destroy.ensures.done {T = Unit {0}} (λ quiet. blank 0) (rw c.in-None.is at c.take.ensures.done)
