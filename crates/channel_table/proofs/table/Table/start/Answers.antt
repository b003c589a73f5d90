use Rattle.channel_table.proofs.Base.{refl, ap, arith, ◌∙◌, Ok, length, Idle, NoId, Starts, Entry, What, past_of, start_told, ChannelServers}
use Rattle.channel_table.proofs.KeptTable.{entry_added}
use Rattle.channel_table.proofs.Keeping.{few_closed, happens_by, happens_nothing, happens_same, kept_more, no_more}
use Rattle.channel_table.proofs.Planning.{begin_failed, may_plan, none_free, none_waits, planned_apart, planned_counted, planned_free, planned_link, planned_may, planned_stands, planned_starts, planned_waits}
use Rattle.channel_table.proofs.Starting.{started_few}
use Rattle.channel_table.proofs.table.Table.start.Goals as goal

pub plan_start-requires : goal.plan_start-requires
plan_start-requires g c = may_plan c.self.invariant

pub returns-in_err-plan-clause-done : goal.returns-in_err-plan-clause-done
returns-in_err-plan-clause-done g c =
    rw (← c.self.view_is) (happens_nothing _ _ _ (Starts c.args.word c.args.mix c.args.at c.from_residual.result) c.self.inside c.args.seat 0 c.self.invariant
    (begin_failed c.self.invariant c.args.mix c.args.at c.from_residual.result c.from_residual.ensures.0 c.in_err-plan.ensures.err))

pub returns-in-NoLeg-clause-done : goal.returns-in-NoLeg-clause-done
returns-in-NoLeg-clause-done g c =
    rw (← c.self.view_is) (happens_nothing _ _ _ (Starts c.args.word c.args.mix c.args.at (Ok Idle)) c.self.inside c.args.seat 0 c.self.invariant (none_waits c.self.invariant c.args.word c.args.mix c.args.at (rw c.in-NoLeg.is at c.in_ok-plan.ensures.plan)))

pub returns-in-NoIdentifier-clause-done : goal.returns-in-NoIdentifier-clause-done
returns-in-NoIdentifier-clause-done g c =
    rw (← c.self.view_is) (happens_nothing _ _ _ (Starts c.args.word c.args.mix c.args.at (Ok NoId)) c.self.inside c.args.seat 0 c.self.invariant (none_free c.self.invariant c.args.word c.args.mix c.args.at (rw c.in-NoIdentifier.is at c.in_ok-plan.ensures.plan)))

pub returns-in_err-room_for_entry-in-Begins-clause-done : goal.returns-in_err-room_for_entry-in-Begins-clause-done
returns-in_err-room_for_entry-in-Begins-clause-done g c =
    rw (← c.self.view_is) (happens_same _ _ _ (Starts c.args.word c.args.mix c.args.at c.from_residual-in_err-room_for_entry-in-Begins.result) c.self.inside (g.J.ChannelJournal.told c.room_for_entry.new.journal) c.args.seat 0 c.room_for_entry.ensures.told c.self.invariant
    (begin_failed c.self.invariant c.args.mix c.args.at c.from_residual-in_err-room_for_entry-in-Begins.result c.from_residual-in_err-room_for_entry-in-Begins.ensures.0 (planned_free c.self.invariant (rw c.in-Begins.is at c.in_ok-plan.ensures.plan))))

pub begin_planned-requires-clause-waits : goal.begin_planned-requires-clause-waits
begin_planned-requires-clause-waits g c = rw c.plan_start.ensures.same (planned_waits c.self.invariant (rw c.in-Begins.is at c.in_ok-plan.ensures.plan))

pub begin_planned-requires-clause-apart : goal.begin_planned-requires-clause-apart
begin_planned-requires-clause-apart g c = rw c.plan_start.ensures.same (planned_apart c.self.invariant (rw c.in-Begins.is at c.in_ok-plan.ensures.plan))

pub returns-in_err-begin_planned-in-Begins-clause-done : goal.returns-in_err-begin_planned-in-Begins-clause-done
returns-in_err-begin_planned-in-Begins-clause-done g c =
    rw (← c.self.view_is) (happens_same _ _ _ (Starts c.args.word c.args.mix c.args.at c.from_residual-in_err-begin_planned-in-Begins.result) c.self.inside (g.J.ChannelJournal.told c.room_for_entry.new.journal) c.args.seat 0 c.room_for_entry.ensures.told c.self.invariant
    (begin_failed c.self.invariant c.args.mix c.args.at c.from_residual-in_err-begin_planned-in-Begins.result c.from_residual-in_err-begin_planned-in-Begins.ensures.0 (planned_free c.self.invariant (rw c.in-Begins.is at c.in_ok-plan.ensures.plan))))

pub invariant_of-self-in-Begins : goal.invariant_of-self-in-Begins
invariant_of-self-in-Begins g c =
    let is = rw c.in-Begins.is at c.in_ok-plan.ensures.plan in
    let begins = rw c.plan_start.ensures.same at c.in_ok-begin_planned-in-Begins.ensures.begins in
    let what : What = start_told c.args.at c.in-Begins.planned in
    let entry : Entry = record { seat = c.args.seat; by = 0; what = what } in
    let room = c.in_ok-room_for_entry-in-Begins.ensures in
    kept_more _ _ _ c.self.inside _ entry refl (entry_added entry (rw c.told.ensures at c.add.ensures.told) c.room_for_entry.ensures.told) c.self.invariant (planned_may c.self.invariant is)
    (planned_stands c.self.invariant is c.args.at begins)
    (rw c.count_begun.ensures (planned_counted c.self.invariant is c.args.at))
    (no_more what (past_of (g.J.ChannelJournal.told c.self.inside.journal)) refl ∙ c.self.invariant.accepts) c.self.invariant.destroyed
    (omega arith)
    (omega (arith, ap (λ (s : ChannelServers). s.greatest_link) c.count_begun.ensures, planned_link c.self.invariant is))
    (started_few c.in-Begins.planned.idle.begun c.self.inside.servers.started _ c.count_begun.new.self.started (ap (λ (s : ChannelServers). s.started) c.count_begun.ensures) (omega arith))
    _ _ room.room room.fits c.add.ensures.room (omega (arith, c.len.ensures, c.len-in-Begins.ensures, c.begin_planned.ensures.len, ap length c.plan_start.ensures.same, few_closed c.self.inside.closed))
    (omega (arith, c.self.invariant.room_ready, c.begin_planned.ensures.len, ap length c.plan_start.ensures.same))

pub returns-in_ok-begin_planned-in-Begins-clause-done : goal.returns-in_ok-begin_planned-in-Begins-clause-done
returns-in_ok-begin_planned-in-Begins-clause-done g c =
    let is = rw c.in-Begins.is at c.in_ok-plan.ensures.plan in
    let what : What = start_told c.args.at c.in-Begins.planned in
    let entry : Entry = record { seat = c.args.seat; by = 0; what = what } in
    rw (← c.self.view_is) (happens_by _ _ _ (Starts c.args.word c.args.mix c.args.at (Ok c.into_begun.result)) c.self.inside (g.J.ChannelJournal.told c.add.new.self) c.args.seat 0 what (entry_added entry (rw c.told.ensures at c.add.ensures.told) c.room_for_entry.ensures.told) c.self.invariant (planned_may c.self.invariant is)
    (rw c.into_begun.ensures (planned_starts c.self.invariant is c.args.at)))
