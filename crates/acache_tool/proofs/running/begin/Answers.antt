use Rattle.std.proofs.Common.{refl}
use Rattle.acache_tool.proofs.BeginLemmas.{begins, begins_all, begins_none, begins_part, unused_as}
use Rattle.acache_tool.proofs.running.begin.Goals as goal

pub returns-in_err-options-clause-begins : goal.returns-in_err-options-clause-begins
returns-in_err-options-clause-begins g c = begins_none c.args.server c.args.turns c.from_residual.result _ c.from_residual.ensures.0

pub returns-in_err-session-clause-begins : goal.returns-in_err-session-clause-begins
returns-in_err-session-clause-begins g c =
    begins_part c.args.server c.args.turns c.from_residual-in_err-session.result c.in_ok-options.options _ _ c.from_residual-in_err-session.ensures.0 c.in_ok-options.ensures c.in_err-session.ensures.opens

pub returns-in_err-alone-clause-begins : goal.returns-in_err-alone-clause-begins
returns-in_err-alone-clause-begins g c =
    begins_all c.args.server c.args.turns c.from_residual-in_err-alone.result c.in_ok-options.options _ _ c.from_residual-in_err-alone.ensures.0 c.in_ok-options.ensures c.in_ok-session.ensures.opens.1

pub returns-clause-begins : goal.returns-clause-begins
returns-clause-begins g c =
    begins c.args.server c.args.turns c.in_ok-options.options (record { session = c.in_ok-session.session; alone = c.in_ok-alone.alone; calls = c.new.result; left = c.args.turns }) _ _ c.in_ok-options.ensures
    (unused_as c.args.server _ _ _ c.in_ok-alone.ensures c.in_ok-options.ensures c.empty.ensures) c.new.ensures refl c.in_ok-session.ensures.opens c.in_ok-session.ensures.fresh c.in_ok-session.ensures.unturned
