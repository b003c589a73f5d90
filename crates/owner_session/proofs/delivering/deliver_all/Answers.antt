use Rattle.std.proofs.Common.{[], ◌∷◌, ◌++◌, refl}
use Rattle.owner_session.proofs.KeepLemmas.{keeps_last, keeps_next, keeps_none}
use Rattle.owner_session.proofs.MoveLemmas.{delivers_last, moves_idle, moves_placed, none_ready, quiet_one, still_idle, weighs_less}
use Rattle.owner_session.proofs.delivering.deliver_all.Goals as goal

pub loop-called-init : goal.loop-called-init
loop-called-init g c = (c.requires.idle, ([], refl), keeps_none g.B.Done.name g.B.Done.told c.args.caller.now)

pub loop-called-smaller : goal.loop-called-smaller
loop-called-smaller g c = weighs_less c.in-Some.called _ _ c.loop-called.invariant.0 (rw c.in-Some.is at c.deliver_one.ensures)

pub loop-called-preserved : goal.loop-called-preserved
loop-called-preserved g c =
    let one = rw c.in-Some.is at c.deliver_one.ensures in (
      moves_idle _ _ (moves_placed _ _ c.put.new.self (quiet_one c.in-Some.called _ _ c.loop-called.invariant.0 one).0) c.loop-called.invariant.0,
      (
        c.loop-called.invariant.1.0 ++ c.in-Some.called ∷ [],
        delivers_last c.loop-called.invariant.1.0 c.in-Some.called _ _ _ c.put.new.self c.loop-called.invariant.1.1 one,
      ),
      keeps_next g.B.Done.name g.B.Done.told c.loop-called.invariant.1.0 c.in-Some.called _ _ _ c.put.new.self c.requires.idle c.loop-called.invariant.1.1 c.loop-called.invariant.0 one c.put.ensures
          c.loop-called.invariant.2,
    )

pub returns : goal.returns
returns g c =
    let none = rw c.in_default.is at c.deliver_one.ensures in
    record {
      delivers = record { called = c.loop-called.invariant.1.0; middle = c.loop-called.caller; some = c.loop-called.invariant.1.1; none = none };
      none_ready = none_ready _ _ none;
      idle = still_idle _ _ c.loop-called.invariant.0 none;
      places = keeps_last g.B.Done.name g.B.Done.told _ _ _ none c.loop-called.invariant.2;
    }
