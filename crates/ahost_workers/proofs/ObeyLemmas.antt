-- Callbacks that were obeyed up to a position were obeyed up to a later one.
use Rattle.std.proofs.Common.{◌≡◌, ℕ, suc, ◌+◌, ◌≤◌, ◌&&◌, ◌==◌, Bool, true, false, cond, nat_le, List, [], ◌∷◌, length, arith, le-leb, leb-true}
use Rattle.chan_types.specs.declared.journal.Entry.{Entry}
use Rattle.chan_types.specs.declared.orders.Orders.{Orders}
use Rattle.channel_model.specs.Commands.{ArePerformed, ObeysOrders, Outcome, Performance, closing_from, closing_position, position_of}
use Rattle.channel_model.specs.Journal.{is_destroy}
use Rattle.channel_model.specs.Setting.{Setting}
use Rattle.owner_session.proofs.Theorems.{all_pass}

-- the closing Destroy stands in the journal, or it would stand at its end
closing_within : (journal : List Entry) (position : ℕ) → closing_from position journal ≤ position + length journal
closing_within [] position = omega arith
closing_within (entry ∷ journal) position = by (is_destroy entry.what && (entry.by == 0)) (closing_within journal (position + 1))
  where
    by : (b : Bool) → closing_from (position + 1) journal ≤ position + 1 + length journal → cond b position (closing_from (position + 1) journal) ≤ position + suc (length journal)
    by true within = omega arith
    by false within = omega (arith, within)

pub closing_few : (journal : List Entry) → closing_position journal ≤ length journal
closing_few journal = omega (arith, closing_within journal 0)

module _ (setting : Setting) (journal : List Entry) (seats : ℕ) (orders : Orders) (last later : ℕ) (le : last ≤ later) where
  in_time_later : (outcome : Outcome) → nat_le (position_of outcome) last ≡ true → nat_le (position_of outcome) later ≡ true
  in_time_later outcome fits = let small : position_of outcome ≤ last = leb-true (position_of outcome) last fits in le-leb (position_of outcome) later (omega (arith, small, le))

  performed_later : (ps : List Performance) → ArePerformed setting journal seats orders last ps → ArePerformed setting journal seats orders later ps
  performed_later [] done = tt
  performed_later (p ∷ ps) done = (
    record {
      seated = done.0.seated;
      became = done.0.became;
      entries_are = done.0.entries_are;
      of_seat = done.0.of_seat;
      in_time = all_pass (λ outcome. nat_le (position_of outcome) last) (λ outcome. nat_le (position_of outcome) later) in_time_later p.outcomes done.0.in_time;
      behind_take = done.0.behind_take;
      before_other_work = done.0.before_other_work;
    },
    performed_later ps done.1,
  )

  pub obeyed_later : (lost : ℕ) → ObeysOrders setting journal seats orders last lost → ObeysOrders setting journal seats orders later lost
  obeyed_later lost obeys = record {
    performances = obeys.performances;
    requests_are = obeys.requests_are;
    performed = performed_later obeys.performances obeys.performed;
    givers = obeys.givers;
    lost_are = obeys.lost_are;
  }
