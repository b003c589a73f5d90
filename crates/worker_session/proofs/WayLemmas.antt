-- A run under way whose turns are made through a desk of their own, and steps one behind the other.
use Rattle.std.proofs.Common.{◌≡◌, ◌≢◌, ◌∙◌, ℕ, ◌+◌, ◌<◌, ◌≤◌, Bool, true, false, List, [], ◌++◌, Option, refl, ap, sym, subst, inl, inr, ⊎_elim, arith}
use Rattle.std.specs.Prelude.{◌⊎◌}
use Rattle.std.specs.List.{list_all}
use Rattle.std.proofs.lemmas.Bool.{and_from}
use Rattle.std.proofs.lemmas.List.Folds.{list_all-append}
use Rattle.channel_model.proofs.Theorems.{own-append}
use Rattle.channel_model.specs.Journal.{own_entries}
use Rattle.channel_progress.specs.Waking.{NoWaitFailed}
use Rattle.channel_session.proofs.StepLemmas.{rose_since}
use Rattle.channel_session.specs.Sitting.{reach_of}
use Rattle.event_runner.proofs.TrailLemmas.{goes_of, trail_none, trail_of, trail_trans}
use Rattle.event_runner.specs.UnderWay.{RunsSince}
use Rattle.net_addr.specs.declared.addr.ServerAddr.{ServerAddr}
use Rattle.net_world.specs.Cause.{Rose}
use Rattle.net_world.specs.declared.log.WorldCall.{WorldCall}
use Rattle.worker_session.specs.Standing.{HasCome, HasSet, IsSome, StandsIn, Told}
use Rattle.worker_session.specs.Stepping.{Answers, StepsOn, is_of_run, may_go_on}
use Rattle.worker_session.specs.Turning.{Turning, longest_pause}
use Rattle.worker_session.specs.declared.coming.Coming.{Coming}
use Rattle.worker_session.specs.declared.coming.Coming.TheVariants.{OutOfMemory, Stalled, UnderWay, WaitFault}

-- where more turns may be made
pub record InWay (turns : ℕ) (later : Option (List ServerAddr)) (began : Option (List WorldCall)) (t : Turning) : Type 0 where
  pub made : ℕ
  pub counts : made + t.left ≡ turns
  pub some : IsSome t.behind_turn made
  pub runs : RunsSince longest_pause made 0 (reach_of t.behind_turn) t.known t.running began t.log
  pub waits : Told NoWaitFailed began t
  pub sets : HasSet UnderWay t.later later made began t

pub way_in : (turns : ℕ) (later : Option (List ServerAddr)) (began : Option (List WorldCall)) (t : Turning) → t.coming ≡ UnderWay → StandsIn turns later began t → InWay turns later began t
way_in turns later began t is s =
    let come : HasCome UnderWay s.made began t = subst (λ c. HasCome c s.made began t) is s.come in
    record {
      made = s.made;
      counts = s.counts;
      some = come.0;
      runs = come.1;
      waits = come.2;
      sets = subst (λ c. HasSet c t.later later s.made began t) is s.sets;
    }

pub in_way : (turns : ℕ) (later : Option (List ServerAddr)) (began : Option (List WorldCall)) (t : Turning) → t.coming ≡ UnderWay → InWay turns later began t → StandsIn turns later began t
in_way turns later began t is w = record {
  made = w.made;
  counts = w.counts;
  come = subst (λ c. HasCome c w.made began t) (sym is) (w.some, w.runs, w.waits);
  sets = subst (λ c. HasSet c t.later later w.made began t) (sym is) w.sets;
}

-- it came to this end
pub come_to : (turns : ℕ) (later : Option (List ServerAddr)) (began : Option (List WorldCall)) (t : Turning) (coming : Coming) → t.coming ≡ coming → (made : ℕ) → made + t.left ≡ turns → HasCome coming made began t →
    HasSet coming t.later later made began t → StandsIn turns later began t
come_to turns later began t coming is made counts come sets = record {
  made = made;
  counts = counts;
  come = subst (λ c. HasCome c made began t) (sym is) come;
  sets = subst (λ c. HasSet c t.later later made began t) (sym is) sets;
}

-- nothing was done
pub steps_none : (t : Turning) → StepsOn t t
steps_none t = record {
  goes_on = goes_of t.known t.known [] (trail_none t.known);
  own = refl;
  stands = λ turns later began s. s;
  waits = omega arith;
  wait_fault = λ other is. absurd (other is);
  ended = λ any. refl;
}

pub steps_same : (a b : Turning) → b ≡ a → StepsOn a b
steps_same a b same = subst (StepsOn a) (sym same) (steps_none a)

-- a wait failed, or none did
failed_or : (c : Coming) → (c ≡ WaitFault) ⊎ (c ≢ WaitFault)
failed_or UnderWay = inr (λ e. cc e)
failed_or WaitFault = inl refl
failed_or Stalled = inr (λ e. cc e)
failed_or OutOfMemory = inr (λ e. cc e)

-- a count that rose earlier rose
rose_before : (a b c : ℕ) → b ≤ c → Rose a b → Rose a c
rose_before a b c later rose = λ room. let more : a < b = rose room in omega (arith, more, later)

-- one step and then another
pub steps_then : (a b c : Turning) → StepsOn a b → StepsOn b c → StepsOn a c
steps_then a b c x y =
    let es = x.goes_on.since in
    let fs = y.goes_on.since in
    record {
      goes_on = goes_of a.known c.known (es ++ fs) (trail_trans a.known b.known c.known es fs (trail_of a.known b.known x.goes_on) (trail_of b.known c.known y.goes_on));
      own =
          ap (list_all is_of_run) (own-append a.known.seat es fs) ∙ list_all-append is_of_run (own_entries a.known.seat es) (own_entries a.known.seat fs)
          ∙ and_from (list_all is_of_run (own_entries a.known.seat es)) (list_all is_of_run (own_entries a.known.seat fs)) x.own
          (subst (λ seat. list_all is_of_run (own_entries seat fs) ≡ true) x.goes_on.desk.seat y.own);
      stands = λ turns later began s. y.stands turns later began (x.stands turns later began s);
      waits = omega (arith, x.waits, y.waits);
      wait_fault = λ other is. ⊎_elim
          (λ failed. rose_before a.wait_faults b.wait_faults c.wait_faults y.waits (x.wait_fault other failed))
          (λ not_failed. rose_since a.wait_faults b.wait_faults c.wait_faults x.waits y.waits (y.wait_fault not_failed is))
          (failed_or b.coming);
      ended = λ over.
          let same : b ≡ a = x.ended over in
          y.ended (subst (λ t. t.coming ≢ UnderWay) (sym same) over) ∙ same;
    }

-- ---- what it answers

-- servers were set behind a turn, or that ended it
pub answers_set : (result : Bool) (old new : Turning) → new.left < old.left → (result ≡ false → may_go_on new.coming ≡ false) → Answers result old new
answers_set true old new fewer ended = inr (inr fewer)
answers_set false old new fewer ended = inl (ended refl)

-- from where the same turns were left, and it had rested or not
pub answers_from : (result : Bool) (a b c : Turning) → b.behind_turn ≡ a.behind_turn → b.left ≡ a.left → Answers result b c → Answers result a c
answers_from true a b c behind left (inl some) = inl some
answers_from true a b c behind left (inr (inl paused)) = inr (inl (sym behind ∙ paused.0, paused.1))
answers_from true a b c behind left (inr (inr fewer)) = inr (inr (omega (arith, fewer, left)))
answers_from false a b c behind left answers = answers
