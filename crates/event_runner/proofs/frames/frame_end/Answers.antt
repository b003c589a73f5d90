use Rattle.event_runner.proofs.FrameLemmas.{ends_at, few, part}
use Rattle.event_runner.proofs.frames.frame_end.Goals as goal

pub returns-then-bytes-lt-HEAD : goal.returns-then-bytes-lt-HEAD
returns-then-bytes-lt-HEAD c = few _ c.if-bytes-lt-HEAD.true

pub returns-then-end-bytes : goal.returns-then-end-bytes
returns-then-end-bytes c = rw (c.from.ensures, c.from-2.ensures) (ends_at c.args.bytes.now c.if-bytes-lt-HEAD.false (rw (c.from.ensures, c.from-2.ensures) at c.if-end-bytes.true))

pub returns-else-end-bytes : goal.returns-else-end-bytes
returns-else-end-bytes c = part c.args.bytes.now c.if-bytes-lt-HEAD.false (rw (c.from.ensures, c.from-2.ensures) at c.if-end-bytes.false)
