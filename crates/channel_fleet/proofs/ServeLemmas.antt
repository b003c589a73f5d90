-- A helm that served its channel.
use Rattle.std.proofs.Common.{◌≡◌, ◌∙◌, ◌==◌, ℕ, Bool, true, List, [], ◌∷◌, None, Option, length, refl, ap, sym, subst}
use Rattle.std.proofs.lemmas.Bool.{and_parts}
use Rattle.std.specs.List.{list_all}
use Rattle.std.specs.Prelude.{is_some, not, ◌||◌, ◌&&◌}
use Rattle.chan_types.specs.declared.journal.Entry.{Entry}
use Rattle.chan_types.specs.declared.journal.What.{What}
use Rattle.chan_types.specs.declared.journal.What.TheVariants.{Accept, Arrive, Cancel, Destroy, Expire, Fault, Servers, Start, Take}
use Rattle.channel_fleet.specs.Serving.{BeganAndServed, Begins, HasCause, HasServed, IsBegun, IsUnturned, LeavesHelm, Watch, first_steering}
use Rattle.channel_fleet.specs.Stands.{SteersOn, watch_at}
use Rattle.channel_fleet.specs.Steering.{EndsHere, Steering}
use Rattle.channel_fleet.specs.Views.{HelmView}
use Rattle.channel_fleet.specs.declared.helm_end.HelmEnd.{HelmEnd}
use Rattle.channel_fleet.specs.declared.stand.Stand.{Stand}
use Rattle.channel_model.specs.Completion.{taken_by}
use Rattle.channel_model.specs.Course.{has_no_turn}
use Rattle.channel_model.specs.Journal.{own_entries}
use Rattle.channel_model.specs.Known.{GoesOn, Known}
use Rattle.channel_model.specs.Servers.{servers_set_by}
use Rattle.channel_model.specs.Turn.{parts_of_entry}
use Rattle.event_runner.specs.Running.{Running}
use Rattle.event_runner.specs.UnderWay.{rested}
use Rattle.event_runner.proofs.Theorems.{runs_begin}
use Rattle.net_world.specs.declared.log.WorldCall.{WorldCall}
use Rattle.shared_channel.specs.Passes.{PassView, desk_of}
use Rattle.shared_channel.specs.Settling.{taken_in}
use Rattle.shared_channel.specs.Staying.{StaysSettled}
use Rattle.shared_channel.proofs.Theorems.{stays, went_as_desk}
use Rattle.worker_session.specs.Setting.{SetsNone}
use Rattle.worker_session.specs.Standing.{StandsIn}
use Rattle.worker_session.specs.Stepping.{StepsOn, is_of_run}
use Rattle.worker_session.specs.Turning.{Turning, longest_pause}
use Rattle.worker_session.specs.declared.coming.Coming.TheVariants.{UnderWay}
use Rattle.worker_session.proofs.Theorems.{stands_new}
use Rattle.channel_fleet.proofs.SteerLemmas.{goes_caller, goes_turning}

-- what a run makes takes nothing
run_takes : (what : What) (by : Bool) → ((not (length (parts_of_entry what) == 0) || is_some (servers_set_by what)) && by) ≡ true → taken_by what ≡ None
run_takes (Accept number spec script) by of_run = refl
run_takes Cancel by of_run = refl
run_takes Destroy by of_run = refl
run_takes (Take number) by of_run = absurd (cc of_run)
run_takes (Start number leg server link id mix moment) by of_run = refl
run_takes (Arrive server link bytes) by of_run = refl
run_takes (Expire number leg moment) by of_run = refl
run_takes (Fault server link moment) by of_run = refl
run_takes (Servers list) by of_run = refl

runs_take : (entries : List Entry) → list_all is_of_run entries ≡ true → taken_in entries ≡ []
runs_take [] all = refl
runs_take (e ∷ es) all =
    let parts = and_parts (is_of_run e) (list_all is_of_run es) all in
    rw (run_takes e.what (e.by == 0) parts.0) (runs_take es parts.1)

-- so a pass through which a run goes on stays settled
stays_run : (old new : PassView) (goes : GoesOn (desk_of old) (desk_of new)) → list_all is_of_run (own_entries old.number goes.since) ≡ true → StaysSettled old new
stays_run old new goes all = stays old new (went_as_desk old new goes (runs_take (own_entries old.number goes.since) all))

abbrev RunsOn : PassView → Known → Type 0
RunsOn old known = (goes : GoesOn (desk_of old) known) × (list_all is_of_run (own_entries old.number goes.since) ≡ true)

-- by the steps of what makes its turns
pub stays_steps : (old new : PassView) (t u : Turning) → t.known ≡ desk_of old → desk_of new ≡ u.known → StepsOn t u → StaysSettled old new
stays_steps old new t u was is steps = go (subst (RunsOn old) (sym is) (by_old t.known was steps.goes_on steps.own))
  where
    by_old : (k : Known) → k ≡ desk_of old → (goes : GoesOn k u.known) → list_all is_of_run (own_entries k.seat goes.since) ≡ true → RunsOn old u.known
    by_old k same goes own = subst (λ k2. ((goes2 : GoesOn k2 u.known) × (list_all is_of_run (own_entries k2.seat goes2.since) ≡ true))) same (goes, own)

    go : RunsOn old (desk_of new) → StaysSettled old new
    go runs = stays_run old new runs.0 runs.1

-- it ended at a failed wait only where one failed
cause_of : (end : HelmEnd) (first last : Steering) → first.turning.coming ≡ UnderWay → StepsOn first.turning last.turning → EndsHere end last → HasCause end first.turning.wait_faults last.turning.wait_faults
cause_of end first last under_way steps ends = λ is. steps.wait_fault (λ failed. cc (sym under_way ∙ failed)) (subst (λ e. EndsHere e last) is ends)

module _ {B W J : Type 0} (log : W → Option (List WorldCall)) (wait_faults : W → ℕ) where
  -- what a helm has that steered
  leaves : (turns : ℕ) (old : HelmView) (first : Steering) (new : Stand B W J) (steers : SteersOn log wait_faults old.made turns first new) → LeavesHelm turns old steers.last (watch_at log wait_faults new)
  leaves turns old first new steers = record {
    turner = ap (λ (s : Steering). s.turning.known) steers.stands;
    caller = ap (λ (s : Steering). s.caller) steers.stands;
    told = ap (λ (s : Steering). s.told) steers.stands;
    runner = steers.runner;
    behind_turn = ap (λ (s : Steering). s.turning.behind_turn) steers.stands;
    made = steers.made;
    log = ap (λ (s : Steering). s.turning.log) steers.stands;
    wait_faults = ap (λ (s : Steering). s.turning.wait_faults) steers.stands;
  }

  -- a helm served
  served : (turns : ℕ) (old : HelmView) (running : Running) (log_begun : Option (List WorldCall)) (faults : ℕ) (new : Stand B W J)
      → (steers : SteersOn log wait_faults old.made turns (first_steering turns running log_begun faults old) new) → HasServed turns old running log_begun faults steers.why (watch_at log wait_faults new)
  served turns old running log_begun faults new steers =
      let first = first_steering turns running log_begun faults old in
      let left = leaves turns old first new steers in
      let steps = goes_turning old.made turns first steers.last steers.course in
      record {
        last = steers.last;
        course = steers.course;
        leaves = left;
        ends = steers.ends;
        cause = subst (HasCause steers.why faults) (sym left.wait_faults) (cause_of steers.why first steers.last refl steps steers.ends);
        settled_turner = stays_steps old.turner new.helm.turner first.turning steers.last.turning refl left.turner steps;
        settled_caller = subst (StaysSettled old.caller) (sym left.caller) (goes_caller old.made turns first steers.last steers.course);
      }

-- where a helm that made no turn before stands behind that
stands_first : (turns : ℕ) (old : HelmView) (running : Running) (before log : Option (List WorldCall)) (wait_faults : ℕ) → IsBegun old running before log → IsUnturned old → StandsIn turns None before (first_steering turns running log wait_faults old).turning
stands_first turns old running before log wait_faults begun un =
    let opens = subst (λ had. Begins had old running before log) un.no_runner begun in
    let none : SetsNone old.turner.number old.turner.seen = subst (SetsNone old.turner.number) (sym un.unseen) refl in
    let no_turn : has_no_turn old.turner.seen ≡ true = ap has_no_turn un.unseen in
    stands_new turns None before (first_steering turns running log wait_faults old).turning refl un.rests refl refl none (runs_begin longest_pause rested (desk_of old.turner) running before log no_turn opens.1 opens.0.0 opens.0.1)

-- a helm began and served its channel
pub began_served : {B W J : Type 0} (log : W → Option (List WorldCall)) (wait_faults : W → ℕ) (turns : ℕ) (old : Watch) (new : Stand B W J) (running : Running) (log_begun : Option (List WorldCall)) → IsBegun old.helm running old.log log_begun
    → (steers : SteersOn log wait_faults old.helm.made turns (first_steering turns running log_begun old.wait_faults old.helm) new) → BeganAndServed turns old steers.why (watch_at log wait_faults new)
unfolding served
began_served log wait_faults turns old new running log_begun begins steers = record {
  running = running;
  log = log_begun;
  begins = begins;
  served = served log wait_faults turns old.helm running log_begun old.wait_faults new steers;
  stands = λ un. (goes_turning old.helm.made turns (first_steering turns running log_begun old.wait_faults old.helm) steers.last steers.course).stands turns None old.log (stands_first turns old.helm running old.log log_begun old.wait_faults begins un);
}
