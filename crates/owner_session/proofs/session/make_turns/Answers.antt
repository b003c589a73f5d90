use Rattle.std.proofs.Common.{ap, arith, inl, refl, ◌∙◌}
use Rattle.std.specs.Prelude.{is_err}
use Rattle.owner_session.proofs.KeepLemmas.{keeps_round, keeps_same, keeps_then, keeps_turned}
use Rattle.owner_session.proofs.LoopLemmas.{asked_here, ends_completed, ends_cut, ends_failed, ends_stalled, ends_unpaused, ends_unset, made_none, made_paused, made_then, then_cut, then_paused, then_whole}
use Rattle.owner_session.proofs.MoveLemmas.{quiet_all}
use Rattle.owner_laws.proofs.Owner.{looked_same, paused_ready, paused_same}
use Rattle.owner_session.proofs.PromptLemmas.{prompted_all}
use Rattle.owner_session.proofs.RoundLemmas.{counted_made, counted_sets, round, turned_made}
use Rattle.owner_session.proofs.ThenLemmas.{then_begun}
use Rattle.owner_session.proofs.session.make_turns.Goals as goal

pub loop-init : goal.loop-init
loop-init g c =
    let all = quiet_all _ _ c.requires.idle c.deliver_all.ensures.delivers in
    record {
      made = made_then _ _ _ _ _ _ _ _ _ (inl refl) (all.0, all.1, prompted_all _ _ c.deliver_all.ensures.delivers all.0 c.deliver_all.ensures.none_ready) (made_none _ _ _);
      sets = then_begun _ _ _ _ _ all.0 all.2;
      delivered = c.deliver_all.ensures.none_ready;
      servers = c.requires.servers;
      places = c.deliver_all.ensures.places;
      waits = omega arith;
      origin = refl;
    }

-- ---- before a turn

-- nothing is pending
pub returns-then-count_pending-eq0-clause-turns : goal.returns-then-count_pending-eq0-clause-turns
returns-then-count_pending-eq0-clause-turns g c =
    ends_completed _ c.loop.later _ _ _ _ _ _ _ _ _ _ (omega (arith, c.loop-test.true)) c.loop.invariant.delivered c.count_pending.ensures c.if-count_pending-eq0.true c.loop.invariant.made c.loop.invariant.sets

-- want of memory cut the turn short
pub returns-in_err-turn-clause-turns : goal.returns-in_err-turn-clause-turns
returns-in_err-turn-clause-turns g c =
    let follows = counted_made _ _ _ _ _ _ _ _ _ _ _ c.requires.idle c.loop.invariant.made c.loop.invariant.sets c.count_pending.ensures c.if-count_pending-eq0.false c.loop.invariant.delivered in
    let counted = counted_sets _ _ _ _ _ _ _ _ _ _ _ c.requires.idle c.loop.invariant.made c.loop.invariant.sets c.count_pending.ensures c.if-count_pending-eq0.false c.loop.invariant.delivered in
    ends_cut _ c.loop.later _ _ _ _ _ _ _ _ c.from_residual.result _ c.turn.new.self _ c.from_residual.ensures.0 (omega (arith, c.loop-test.true)) c.in_err-turn.ensures.goes
    (asked_here _ _ _ c.count_pending.ensures c.if-count_pending-eq0.false c.loop.invariant.delivered) follows
    (then_cut _ _ _ _ _ _ _ _ _ c.loop.runner c.turn.new.self _ c.in_err-turn.ensures.goes counted)

-- ---- behind a turn

-- want of memory came where servers were to be set
pub returns-in_err-set_later-clause-turns : goal.returns-in_err-set_later-clause-turns
returns-in_err-set_later-clause-turns g c =
    let counted = counted_sets _ _ _ _ _ _ _ _ _ _ _ c.requires.idle c.loop.invariant.made c.loop.invariant.sets c.count_pending.ensures c.if-count_pending-eq0.false c.loop.invariant.delivered in
    let turned = turned_made _ _ _ _ _ _ _ _ _ _ _ c.requires.idle c.loop.invariant.made c.loop.invariant.sets c.count_pending.ensures c.if-count_pending-eq0.false c.loop.invariant.delivered _ c.turn.new.self _ c.in_ok-turn.field-0 c.in_ok-turn.ensures.goes c.in_ok-turn.ensures.reading in
    ends_unset _ c.loop.later _ _ _ _ _ _ _ _ c.from_residual-in_err-set_later.result _ c.set_later.result c.loop.counter _ c.from_residual-in_err-set_later.ensures.0 (ap is_err c.in_err-set_later.was) (omega arith) (omega (arith, c.loop-test.true)) (omega arith)
    c.set_later.ensures.sets turned (then_whole _ _ _ _ _ _ _ _ _ c.loop.runner c.turn.new.self _ c.in_ok-turn.field-0 c.in_ok-turn.ensures.goes counted)

-- the rest of an iteration goes so
pub loop-preserved : goal.loop-preserved
loop-preserved g c =
    let one = round _ _ _ _ _ _ _ _ _ _ _ c.requires.idle c.loop.invariant.made c.loop.invariant.sets c.count_pending.ensures c.if-count_pending-eq0.false c.loop.invariant.delivered _ c.turn.new.self _ c.in_ok-turn.field-0 c.in_ok-turn.ensures.goes c.in_ok-turn.ensures.reading
    c.in_ok-set_later.field-0 _ c.in_ok-set_later.ensures.sets _ c.deliver_all-in-loop.ensures.delivers c.deliver_all-in-loop.ensures.none_ready in
    record {
      made = made_paused _ _ _ _ _ _ _ _ _ _ _ c.in_ok-pause.field-0 (omega arith) c.in_default.not-WaitFault c.in_ok-pause.ensures.pauses c.in_ok-pause.ensures.kept one.made;
      sets = rw c.set_later.ensures.left (then_paused _ _ _ _ _ _ _ _ _ c.in_ok-pause.field-0 _ _ c.in_ok-pause.ensures.pauses one.sets);
      delivered = paused_ready _ c.in_ok-pause.field-0 _ _ _ _ c.in_ok-pause.ensures.pauses c.deliver_all-in-loop.ensures.none_ready;
      servers = rw c.set_later.ensures.left tt;
      places = keeps_same g.B.Done.name g.B.Done.told _ _ _ (paused_same _ c.in_ok-pause.field-0 _ _ _ _ c.in_ok-pause.ensures.pauses)
          (keeps_round g.B.Done.name g.B.Done.told _ _ c.loop.invariant.made.moves c.loop.invariant.places _ _ c.count_pending.ensures _ c.in_ok-turn.ensures.goes.goes_on c.in_ok-turn.ensures.goes.made _ _ _
          c.in_ok-set_later.ensures.sets _ c.deliver_all-in-loop.ensures.places);
      waits = omega (arith, c.loop.invariant.waits, c.turn.ensures.waits, c.pause.ensures.waits);
      origin = c.pause.ensures.origin ∙ c.turn.ensures.origin ∙ c.loop.invariant.origin;
    }

pub returns-in_err-pause-clause-turns : goal.returns-in_err-pause-clause-turns
returns-in_err-pause-clause-turns g c =
    let one = round _ _ _ _ _ _ _ _ _ _ _ c.requires.idle c.loop.invariant.made c.loop.invariant.sets c.count_pending.ensures c.if-count_pending-eq0.false c.loop.invariant.delivered _ c.turn.new.self _ c.in_ok-turn.field-0 c.in_ok-turn.ensures.goes c.in_ok-turn.ensures.reading
    c.in_ok-set_later.field-0 _ c.in_ok-set_later.ensures.sets _ c.deliver_all-in-loop.ensures.delivers c.deliver_all-in-loop.ensures.none_ready in
    ends_unpaused _ _ _ _ _ _ _ _ _ _ c.from_residual-in_err-pause.result _ _ c.from_residual-in_err-pause.ensures.0 (omega arith) (omega (arith, c.loop-test.true)) c.in_err-pause.ensures.pauses one.made one.sets

pub returns-in-WaitFault-clause-turns : goal.returns-in-WaitFault-clause-turns
returns-in-WaitFault-clause-turns g c =
    let one = round _ _ _ _ _ _ _ _ _ _ _ c.requires.idle c.loop.invariant.made c.loop.invariant.sets c.count_pending.ensures c.if-count_pending-eq0.false c.loop.invariant.delivered _ c.turn.new.self _ c.in_ok-turn.field-0 c.in_ok-turn.ensures.goes c.in_ok-turn.ensures.reading
    c.in_ok-set_later.field-0 _ c.in_ok-set_later.ensures.sets _ c.deliver_all-in-loop.ensures.delivers c.deliver_all-in-loop.ensures.none_ready in
    let pauses = rw c.in-WaitFault.is at c.in_ok-pause.ensures.pauses in
    ends_failed _ _ _ _ _ _ _ _ _ _ _ _ _ _ (omega arith) (omega (arith, c.loop-test.true)) c.deliver_all-in-loop.ensures.none_ready pauses c.in_ok-pause.ensures.kept one.made
    (then_paused _ _ _ _ _ _ _ _ _ _ _ _ c.in_ok-pause.ensures.pauses one.sets)

-- ---- behind the last turn

pub returns-then-count_pending-eq0-2-clause-turns : goal.returns-then-count_pending-eq0-2-clause-turns
returns-then-count_pending-eq0-2-clause-turns g c =
    ends_completed _ c.loop.later _ _ _ _ _ _ _ _ _ _ (omega (arith, c.loop-test.false, c.loop.auto.counter-end)) c.loop.invariant.delivered c.count_pending-2.ensures c.if-count_pending-eq0-2.true c.loop.invariant.made c.loop.invariant.sets

pub returns-clause-turns : goal.returns-clause-turns
returns-clause-turns g c =
    ends_stalled _ c.loop.later _ _ _ _ _ _ _ _ _ _ (omega (arith, c.loop-test.false, c.loop.auto.counter-end)) c.loop.invariant.delivered c.count_pending-2.ensures c.if-count_pending-eq0-2.false c.loop.invariant.made c.loop.invariant.sets

-- ---- the bodies

pub returns-then-count_pending-eq0-clause-places : goal.returns-then-count_pending-eq0-clause-places
returns-then-count_pending-eq0-clause-places g c = keeps_same g.B.Done.name g.B.Done.told _ _ _ c.count_pending.ensures.same c.loop.invariant.places

pub returns-in_err-turn-clause-places : goal.returns-in_err-turn-clause-places
returns-in_err-turn-clause-places g c =
    keeps_turned g.B.Done.name g.B.Done.told _ _ c.loop.invariant.made.moves c.loop.invariant.places _ _ c.count_pending.ensures _ c.in_err-turn.ensures.goes.goes_on c.in_err-turn.ensures.goes.made

pub returns-in_err-set_later-clause-places : goal.returns-in_err-set_later-clause-places
returns-in_err-set_later-clause-places g c =
    keeps_then g.B.Done.name g.B.Done.told _ _ c.loop.invariant.made.moves c.loop.invariant.places _ _ c.count_pending.ensures _ c.in_ok-turn.ensures.goes.goes_on c.in_ok-turn.ensures.goes.made _ _ _
    c.set_later.ensures.sets

pub returns-in_err-pause-clause-places : goal.returns-in_err-pause-clause-places
returns-in_err-pause-clause-places g c =
    keeps_same g.B.Done.name g.B.Done.told _ _ _ (looked_same _ _ c.in_err-pause.ensures.pauses.0)
    (keeps_round g.B.Done.name g.B.Done.told _ _ c.loop.invariant.made.moves c.loop.invariant.places _ _ c.count_pending.ensures _ c.in_ok-turn.ensures.goes.goes_on c.in_ok-turn.ensures.goes.made _ _ _
    c.in_ok-set_later.ensures.sets _ c.deliver_all-in-loop.ensures.places)

pub returns-in-WaitFault-clause-places : goal.returns-in-WaitFault-clause-places
returns-in-WaitFault-clause-places g c =
    keeps_same g.B.Done.name g.B.Done.told _ _ _ (paused_same _ c.in_ok-pause.field-0 _ _ _ _ c.in_ok-pause.ensures.pauses)
    (keeps_round g.B.Done.name g.B.Done.told _ _ c.loop.invariant.made.moves c.loop.invariant.places _ _ c.count_pending.ensures _ c.in_ok-turn.ensures.goes.goes_on c.in_ok-turn.ensures.goes.made _ _ _
    c.in_ok-set_later.ensures.sets _ c.deliver_all-in-loop.ensures.places)

pub returns-then-count_pending-eq0-2-clause-places : goal.returns-then-count_pending-eq0-2-clause-places
returns-then-count_pending-eq0-2-clause-places g c = keeps_same g.B.Done.name g.B.Done.told _ _ _ c.count_pending-2.ensures.same c.loop.invariant.places

pub returns-clause-places : goal.returns-clause-places
returns-clause-places g c = keeps_same g.B.Done.name g.B.Done.told _ _ _ c.count_pending-2.ensures.same c.loop.invariant.places
