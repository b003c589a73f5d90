use Rattle.std.proofs.Common.{◌≡◌, ◌+◌, ◌<◌, ◌≤◌, false, true, length, take, ap, arith}
use Rattle.edns_opt.specs.Options.{spelling}
use Rattle.edns_opt.proofs.OptLemmas.{spelling_here}
use Rattle.edns_opt.proofs.opt.Opt.fits.Goals as goal
use Rattle.edns_opt.proofs.opt.Opt.fits.Goals.{then-left-lt-OPTION_FRONT-via-then-left-lt-OPTION_FRONT, then-left-lt-OPTION_FRONT-via-else-left-lt-OPTION_FRONT+then-left-len}

pub returns-then-left-lt-OPTION_FRONT : goal.returns-then-left-lt-OPTION_FRONT
returns-then-left-lt-OPTION_FRONT c =
    let items = c.as_slice-item-items.result.now in
    let more : length (spelling (take c.loop-item.item-index items)) + 4 + length c.item-item.result.content ≤ length (spelling items) = spelling_here items c.loop-item.item-index c.item-item.result c.loop-item-test.true c.item-item.is in
    let so_far : c.loop-item.left + length (spelling (take c.loop-item.item-index items)) ≡ 65535 = c.loop-item.invariant in
    let same : length (spelling items) ≡ length (spelling c.args.self.now.options) = ap (λ (x : _). length (spelling x)) c.as_slice-item-items.ensures in
    let long : 65535 < length (spelling items) = elim c.then-left-lt-OPTION_FRONT.branch [
      | then-left-lt-OPTION_FRONT-via-then-left-lt-OPTION_FRONT w ↦ omega (arith, more, so_far)
      | then-left-lt-OPTION_FRONT-via-else-left-lt-OPTION_FRONT+then-left-len w ↦ omega (arith, more, so_far, c.len-len.ensures)
    ] in
    (λ (t : false ≡ true). absurd cc, λ le. absurd (omega (arith, le, long, same)))
