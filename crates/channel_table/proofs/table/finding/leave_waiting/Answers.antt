use Rattle.channel_table.proofs.Base.{arith, subst, sym, AllByRecursion, Legs, IsListed, lookups}
use Rattle.std.specs.Prelude.{None}
use Rattle.channel_table.proofs.ListedLemmas.{dropped, finds_with, none_waits}
use Rattle.channel_table.proofs.table.finding.leave_waiting.Goals as goal

pub returns-then-not-some_waits : goal.returns-then-not-some_waits
returns-then-not-some_waits g c = λ listed.
    let row = c.row_at-row.result.now in
    let idle = none_waits (lookups row) (sym c.if-not-some_waits.ensures) in
    subst (λ (legs : Legs). AllByRecursion (IsListed legs) c.args.rows.now.items) (sym c.drop_first.ensures)
    (dropped c.args.waiting.now c.in-Some.first c.args.rows.now.items listed
    (finds_with c.args.rows.now.items c.in-Some.first.number c.args.index row None c.requires.rising (omega (arith, c.requires.inside, c.args.rows.now.ok.0)) c.row_at-row.ensures c.if-row-first.true idle))
