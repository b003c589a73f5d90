use Rattle.event_runner.proofs.Base.{List, Option, WorldCall, expiring, Kept, Goes, Within, state_of}
use Rattle.event_runner.proofs.expiring.expire_all.Given as goal

abbrev pub invariant-loop-expired : goal.invariant-loop-expired
invariant-loop-expired g l = (kept : Kept) (log : Option (List WorldCall)) →
    Goes (Within l.reading expiring 0 l.expired 0) (state_of (g.D.Desk.known l.initial.desk) kept log) (state_of (g.D.Desk.known l.desk) kept log)
