-- What is left of a session, from its making to its end.
use Rattle.std.proofs.Common.{◌≡◌, ◌≢◌, ◌∙◌, ℕ, zero, suc, ◌<◌, ◌==◌, Bool, true, false, not, List, [], ◌∷◌, ◌++◌, Option, map, length, refl, sym, ap, ap₂, subst, arith, append_assoc}
use Rattle.std.proofs.lemmas.List.{append-nil, map-append}
use Rattle.std.specs.List.{AllByRecursion, list_all}
use mathlib.Core.List.{IsPrefix}
use Rattle.atomic_table.specs.Seated.{TableId}
use Rattle.chan_types.specs.declared.journal.Entry.{Entry}
use Rattle.chan_types.specs.declared.orders.Orders.{Orders}
use Rattle.chan_types.specs.declared.spec.Spec.{Spec}
use Rattle.channel_model.specs.Completion.{occurrences, pending, ready}
use Rattle.channel_model.specs.Commands.{ObeysOrders, accepted_for}
use Rattle.channel_model.specs.Journal.{own_entries, past_of}
use Rattle.channel_model.specs.Known.{GoesOn, Known}
use Rattle.channel_model.specs.Lawful.{IsLawful}
use Rattle.channel_model.specs.Setting.{Setting}
use Rattle.completion_ticket.specs.States.{CallbackState}
use Rattle.net_addr.specs.declared.addr.ServerAddr.{ServerAddr}
use Rattle.net_world.specs.Logs.{LogGets}
use Rattle.net_world.specs.declared.log.WorldCall.{WorldCall}
use Rattle.pass_laws.proofs.ClosingLemmas.{destroyed_once_in, ends_in_time}
use Rattle.pass_laws.proofs.EndLemmas.{are_obeyed}
use Rattle.pass_laws.specs.Courses.{AreObeyedUpTo, Course, EndsBehind, HasItsScript, IsCourseIn, is_closing}
use Rattle.turner_rounds.specs.Served.{AreServed, IsWorkersCourse}
use Rattle.pooled_places.proofs.Theorems.{all_still}
use Rattle.pooled_places.specs.Standing.{AreStill}
use Rattle.seat_laws.proofs.ListLemmas.{all_pass}
use Rattle.shared_channel.proofs.Theorems.{stays_more}
use Rattle.shared_channel.specs.Finishing.{AnswersAll, AreAllPasses, Finishes}
use Rattle.shared_channel.specs.Making.{IsNewChannel}
use Rattle.shared_channel.specs.Passes.{PassView, desk_of}
use Rattle.shared_channel.specs.Settling.{AreSettled}
use Rattle.shared_channel.specs.Staying.{StaysSettled}
use Rattle.shared_channel.specs.declared.finishing.Finished.{Finished}
use Rattle.turner_laws.proofs.TrafficLemmas.{traffic_kept}
use Rattle.turner_laws.specs.Traffic.{IsTrafficBeside}
use Rattle.worker_rounds.specs.Going.{IsCommanded}
use Rattle.worker_session.specs.Standing.{StandsIn}
use Rattle.worker_session.specs.Stepping.{StepsOn, is_of_run}
use Rattle.worker_session.specs.Turning.{Turning, pending_of, ready_of}
use Rattle.shared_session.proofs.AskingLemmas.{GoesFree, accepts_asked, accepts_steps, free_asks, free_more, free_steps, own_asks, own_steps, run_open, stays_asks, stays_steps}
use Rattle.shared_session.proofs.AskedLemmas.{accepted_parts, asks_none, run_asks, unasked}
use Rattle.shared_session.proofs.EndLemmas.{accepts_are, first_number, first_owns, first_setting, goes_on_behind, made_unasked, more, parts, quiet}
use Rattle.shared_session.proofs.GivingLemmas.{obeys_gives}
use Rattle.shared_session.proofs.GoneLemmas.{prefix_on}
use Rattle.shared_session.proofs.SeatedLemmas.{by_first, run_first, seated}
use Rattle.shared_session.proofs.SettlingLemmas.{IsUnused, first_settled, news_unused, rest_settled, settled_first}
use Rattle.shared_session.specs.Asking.{AsksAll, EndsAsking, asking_of, askings}
use Rattle.shared_session.specs.Giving.{IsGiven, OnlyGives, OnlyObeys}
use Rattle.shared_session.specs.Looking.{SeesNothing}
use Rattle.shared_session.specs.Serving.{EndsAs, HasGone, IsBetween}
use Rattle.shared_session.specs.Seats.{AsksFirst, is_asking, is_seated, seats_for}
use Rattle.shared_session.specs.Session.{ComesTo, IsOverAtClosing, IsSession, last_at}
use Rattle.shared_session.specs.declared.task.SessionEnd.{SessionEnd}
use Rattle.shared_session.specs.declared.task.SessionEnd.TheVariants.{Completed, OutOfMemory, Stalled, WaitFault}

-- a desk went on by what a run makes
pub record RunsOn (old new : Known) : Type 0 where
  pub goes : GoesOn old new
  pub own : list_all is_of_run (own_entries old.seat goes.since) ≡ true

pub runs_by : (before after : Turning) (first last : PassView) → before.known ≡ desk_of first → after.known ≡ desk_of last → StepsOn before after → RunsOn (desk_of first) (desk_of last)
runs_by before after first last stood stands steps = subst (λ k. RunsOn k (desk_of last)) stood (subst (λ k. RunsOn before.known k) stands (record { goes = steps.goes_on; own = steps.own }))

-- ---- the channel may be finished

module _ (lock : TableId) (setting : Setting) (count : ℕ) (requests : List (Spec × CallbackState)) (asked : Bool) (new first last owner_new owner : PassView) (workers_new workers : List PassView) (before after : Turning) (made : IsNewChannel lock setting count (new ∷ owner_new ∷ workers_new))
    (asks : AsksAll requests asked new first) (stood : before.known ≡ desk_of first) (stands : after.known ≡ desk_of last) (steps : StepsOn before after) where
  went : StaysSettled new last
  went = let runs = runs_by before after first last stood stands steps in stays_more new first last (stays_asks requests asked new first asks) (stays_steps first last runs.goes runs.own)

  pub all_passes : AreStill (owner_new ∷ workers_new) (owner ∷ workers) → AreAllPasses lock (last ∷ owner ∷ workers)
  all_passes still = all_still (last ∷ owner ∷ workers) made (some count made.all) (went.same, still)
    where
      some : (n : ℕ) → suc (suc (length workers_new)) ≡ n → 0 < n
      some n is = omega (arith, is)

  pub none_outside : (AreSettled (owner_new ∷ workers_new) → AreSettled (owner ∷ workers)) → AreSettled (last ∷ owner ∷ workers)
  none_outside settled =
      let unused = news_unused lock setting count (new ∷ owner_new ∷ workers_new) made in
      settled_first last (owner ∷ workers) (went.settled (first_settled new (owner_new ∷ workers_new) unused)) (settled (rest_settled new (owner_new ∷ workers_new) unused))

-- a channel was made, asked, served and finished: through the first pass requests were accepted and then the turner went on; through the others the session did
pub record IsLeft {J : Type 0} (told : J → List Entry) (orders : Orders) (lock : TableId) (setting : Setting) (count : ℕ) (requests : List (Spec × CallbackState)) (asked : Bool) (new first last owner_new owner : PassView) (workers_new workers : List PassView) (before after : Turning) (end : SessionEnd) (finished : Finished J) : Type 0 where
  pub made : IsNewChannel lock setting count (new ∷ owner_new ∷ workers_new)
  pub asks : AsksAll requests asked new first
  pub stood : before.known ≡ desk_of first
  pub stands : after.known ≡ desk_of last
  pub gone : HasGone orders owner_new workers_new before owner workers after
  pub ends : EndsAs end after (owner ∷ workers)
  pub between : IsBetween after
  -- where a request was refused, memory was wanting
  pub refused : asked ≡ false → end ≡ OutOfMemory
  pub finishes : Finishes told orders (last ∷ owner ∷ workers) finished

module _ {J : Type 0} (told : J → List Entry) (orders : Orders) (lock : TableId) (setting : Setting) (count : ℕ) (requests : List (Spec × CallbackState)) (asked : Bool) (new first last owner_new owner : PassView) (workers_new workers : List PassView) (before after : Turning) (end : SessionEnd) (finished : Finished J)
    (left : IsLeft told orders lock setting count requests asked new first last owner_new owner workers_new workers before after end finished) where
  abbrev journal : List Entry
  journal = told finished.journal

  runs : RunsOn (desk_of first) (desk_of last)
  runs = runs_by before after first last left.stood left.stands left.gone.turner

  free : GoesFree orders new last
  free = free_more orders new first last (free_asks orders requests asked new first left.asks) (free_steps first last runs.goes runs.own orders)

  unused : AllByRecursion IsUnused (new ∷ owner_new ∷ workers_new)
  unused = news_unused lock setting count (new ∷ owner_new ∷ workers_new) left.made

  owner_setting : owner_new.setting ≡ setting
  owner_setting = ap (λ (p : PassView). p.setting) (left.made.each (suc zero) owner_new (some count left.made.all))
    where
      some : (n : ℕ) → suc (suc (length workers_new)) ≡ n → suc zero < n
      some n is = omega (arith, is)

  owner_prefix : IsPrefix owner.seen journal
  owner_prefix = prefix_on owner.seen left.finishes.all.seen journal left.finishes.joined.seen.1.0 (left.finishes.journal.made, sym left.finishes.journal.parts)

  served : AreServed orders setting journal owner_new workers_new owner workers
  served = left.gone.served setting journal owner_setting owner_prefix

  abbrev turner : Course
  turner = record { before = new; works = free.works; after = last }

  abbrev others : List Course
  others = record { before = owner_new; works = served.works; after = owner } ∷ served.courses

  given : OnlyGives owner
  given = left.gone.gives (subst (AllByRecursion (IsGiven owner_new.calls)) (sym unused.1.0.0) tt)

  none_obeyed : (ps : List PassView) → AllByRecursion IsUnused ps → AllByRecursion OnlyObeys ps
  none_obeyed [] each = tt
  none_obeyed (p ∷ ps) each = (subst (AllByRecursion (IsCommanded p.calls)) (sym each.0.0) tt, none_obeyed ps each.1)

  obeyed : AllByRecursion OnlyObeys (map (λ (c : Course). c.after) served.courses)
  obeyed = subst (AllByRecursion OnlyObeys) (sym served.afters) (left.gone.obeys (none_obeyed workers_new unused.1.1))

  gives : AllByRecursion OnlyGives (map (λ (c : Course). c.after) others)
  gives = (given, obeys_gives (map (λ (c : Course). c.after) served.courses) obeyed)

  workers_in : (cs : List Course) → AllByRecursion (IsWorkersCourse orders setting journal) cs → AllByRecursion (IsCourseIn orders setting journal) cs
  workers_in [] each = tt
  workers_in (c ∷ cs) each = (record { does = each.0.does; apart = λ request some. ap (occurrences request) each.0.took_none; scripts = each.0.scripts }, workers_in cs each.1)

  ends_behind : EndsBehind told orders lock setting count (turner ∷ others) finished
  ends_behind = record {
    made = subst (λ l. IsNewChannel lock setting count (new ∷ owner_new ∷ l)) (sym served.befores) left.made;
    each = (
      record {
        does = free.through;
        apart = λ request some. ap (occurrences request) free.took_none;
        scripts = subst (AllByRecursion (HasItsScript setting journal)) (sym free.untold) tt;
      },
      (
        record {
          does = served.does;
          apart = λ request some. absurd (some (ap (occurrences request) served.for_none));
          scripts = served.scripts;
        },
        workers_in served.courses served.each,
      ),
    );
    finishes = subst (λ l. Finishes told orders (last ∷ owner ∷ l) finished) (sym served.afters) left.finishes;
  }

  -- the turner's pass closed nothing
  closed_none : list_all (λ e. not (is_closing e)) last.own ≡ true
  closed_none =
      own_steps (λ e. not (is_closing e)) (λ e run. run_open e.seat e.by e.what (e.by == 0) run) first last runs.goes runs.own
      (own_asks (λ e. not (is_closing e)) (λ seat number spec script. refl) requests asked new first left.asks (ap (list_all (λ e. not (is_closing e))) unused.0.0))

  -- where it completed, each pass sees nothing that is left
  sees_all : EndsAs Completed after (owner ∷ workers) → AllByRecursion SeesNothing (map (λ (c : Course). c.after) (turner ∷ others))
  sees_all all = (
    record {
      none_pending = ap pending_of (sym left.stands) ∙ all.2;
      none_ready = ap ready_of (sym left.stands) ∙ all.1;
    },
    subst (λ l. AllByRecursion SeesNothing (owner ∷ l)) (sym served.afters) all.3,
  )

  -- the traffic
  traffic : (turns : ℕ) (later : Option (List ServerAddr)) (began : Option (List WorldCall)) → StandsIn turns later began before → LogGets (IsTrafficBeside setting 0 later turns after.coming journal) began after.log
  traffic turns later began stands =
      let behind : List Entry = more told orders lock setting count turner others finished ends_behind gives in
      let is : LogGets (IsTrafficBeside after.known.setting after.known.seat later turns after.coming (after.known.seen ++ behind)) began after.log =
      traffic_kept turns later began after behind (left.gone.turner.stands turns later began stands) left.between (goes_on_behind told orders lock setting count turner others finished ends_behind gives after left.stands) in
      subst (λ s. LogGets (IsTrafficBeside s 0 later turns after.coming journal) began after.log) (first_setting told orders lock setting count turner others finished ends_behind gives)
      (subst (λ n. LogGets (IsTrafficBeside last.setting n later turns after.coming journal) began after.log) (first_number told orders lock setting count turner others finished ends_behind gives)
      (subst (λ j. LogGets (IsTrafficBeside last.setting last.number later turns after.coming j) began after.log) (sym (parts told orders lock setting count turner others finished ends_behind gives))
      (subst (λ (k : Known). LogGets (IsTrafficBeside k.setting k.seat later turns after.coming (k.seen ++ behind)) began after.log) left.stands is)))

  comes_to : (e : SessionEnd) → EndsAs e after (owner ∷ workers) → ComesTo e after.coming
  comes_to Completed ends = ends.0
  comes_to WaitFault ends = ends
  comes_to Stalled ends = ends
  comes_to OutOfMemory ends = ends

  -- ---- callbacks

  up_to : (e : SessionEnd) → EndsAs e after (owner ∷ workers) → AreObeyedUpTo told orders lock setting count (turner ∷ others) finished (last_at e journal)
  up_to Completed ends = (ends_in_time orders lock setting count (turner ∷ others) finished ends_behind (quiet told orders lock setting count turner others finished ends_behind gives (sees_all ends) closed_none)).obeyed
  up_to WaitFault ends = (are_obeyed orders lock setting count (turner ∷ others) finished ends_behind).obeyed
  up_to Stalled ends = (are_obeyed orders lock setting count (turner ∷ others) finished ends_behind).obeyed
  up_to OutOfMemory ends = (are_obeyed orders lock setting count (turner ∷ others) finished ends_behind).obeyed

  over_if : end ≡ Completed → IsOverAtClosing setting journal
  over_if is =
      let all : EndsAs Completed after (owner ∷ workers) = subst (λ e. EndsAs e after (owner ∷ workers)) is left.ends in
      let still = quiet told orders lock setting count turner others finished ends_behind gives (sees_all all) closed_none in
      let in_time = ends_in_time orders lock setting count (turner ∷ others) finished ends_behind still in
      record { none_pending = ap (pending setting) in_time.past ∙ still.none_pending; none_ready = ap (ready setting) in_time.past ∙ still.none_ready }

  -- the requests
  accepted_are_ : accepted_for 0 journal ≡ askings left.asks.asked
  accepted_are_ = accepts_are told orders lock setting count turner others finished ends_behind gives ∙ accepts_steps first last runs.goes runs.own ∙ accepts_asked requests asked new first left.asks unused.0.0

  all_asked : end ≢ OutOfMemory → (all : Bool) → asked ≡ all → accepted_for 0 journal ≡ askings requests
  all_asked served_ true is =
      let none : left.asks.left ≡ [] = (subst (λ a. EndsAsking a left.asks.left left.asks.middle first) is left.asks.ends).0 in
      accepted_are_ ∙ ap askings (sym (append-nil left.asks.asked) ∙ ap (λ l. left.asks.asked ++ l) (sym none) ∙ sym left.asks.parts)
  all_asked served_ false is = absurd (served_ (left.refused is))

  -- the first seat's own: its requests, then what its turner made, and what was made in the end
  asked_first : AsksFirst journal
  asked_first =
      let turned : List Entry = own_entries first.number runs.goes.since in
      let made : List Entry = ends_behind.finishes.journal.made in
      record {
        asking = first.own;
        behind = turned ++ made;
        parts = ap (λ n. own_entries n journal) (sym (first_number told orders lock setting count turner others finished ends_behind gives))
            ∙ first_owns told orders lock setting count turner others finished ends_behind gives ∙ ap (λ l. l ++ made) runs.goes.own ∙ append_assoc first.own turned made;
        asks_only = own_asks is_asking (λ seat number spec script. refl) requests asked new first left.asks (ap (list_all is_asking) unused.0.0);
        none_behind = accepted_parts turned made
            ∙ ap₂ (λ a b. a ++ b) (unasked turned (all_pass is_of_run asks_none (λ e run. run_asks e.seat e.by e.what (e.by == 0) run) turned runs.own))
            (made_unasked told orders lock setting count turner others finished ends_behind gives);
      }

  all_seated : (workers_are : ℕ) → count ≡ seats_for workers_are → list_all (is_seated workers_are) journal ≡ true
  all_seated workers_are as_many =
      seated told orders lock setting count turner (record { before = owner_new; works = served.works; after = owner }) served.courses finished ends_behind given obeyed workers_are as_many
      (own_steps by_first run_first first last runs.goes runs.own (own_asks by_first (λ seat number spec script. refl) requests asked new first left.asks (ap (list_all by_first) unused.0.0)))

  pub is_session : (workers_are turns : ℕ) (later : Option (List ServerAddr)) (began : Option (List WorldCall)) → count ≡ seats_for workers_are → StandsIn turns later began before → IsSession told setting (askings requests) orders later workers_are turns end finished began after.log
  is_session workers_are turns later began as_many stands =
      let orders_kept = up_to end left.ends in
      let same : left.finishes.all.setting ≡ setting = ap (λ (p : PassView). p.setting) left.finishes.joined.first ∙ first_setting told orders lock setting count turner others finished ends_behind gives in
      record {
        lawful = subst (λ s. IsLawful s journal) same left.finishes.nothing.lawful;
        none_pending = subst (λ s. pending s (past_of journal) ≡ []) same left.finishes.nothing.none_pending;
        none_ready = subst (λ s. ready s (past_of journal) ≡ []) same left.finishes.nothing.none_ready;
        seated = all_seated workers_are as_many;
        asked_all = λ served_. all_asked served_ asked refl;
        asked_at_most = (askings left.asks.left, ap (λ l. l ++ askings left.asks.left) accepted_are_ ∙ sym (map-append asking_of left.asks.asked left.asks.left) ∙ ap askings (sym left.asks.parts));
        asked_first = asked_first;
        lost = orders_kept.0;
        obeyed = subst (λ n. ObeysOrders setting journal n orders (last_at end journal) orders_kept.0) as_many orders_kept.1;
        counted = orders_kept.2;
        accepted_are = left.finishes.accepted_are;
        answers = subst (λ s. AnswersAll s journal finished.accepted finished.calls) same left.finishes.answers;
        destroyed = destroyed_once_in orders lock setting count (turner ∷ others) finished ends_behind;
        complete = over_if;
        coming = after.coming;
        comes = comes_to end left.ends;
        traffic = traffic turns later began stands;
      }
