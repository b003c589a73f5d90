-- A session goes on: what was done through each pass, one part behind another.
use Rattle.std.proofs.Common.{◌≡◌, ◌∙◌, Bool, true, false, List, [], ◌∷◌, ◌++◌, map, refl, sym, ap, ap₂, subst, append_assoc}
use Rattle.std.proofs.lemmas.List.{append-nil}
use Rattle.std.specs.List.{AllByRecursion}
use mathlib.Core.List.{IsPrefix}
use Rattle.chan_types.specs.declared.journal.Entry.{Entry}
use Rattle.chan_types.specs.declared.orders.Orders.{Orders}
use Rattle.channel_model.proofs.Theorems.{each-append}
use Rattle.channel_model.specs.Known.{Known}
use Rattle.channel_model.specs.Setting.{Setting}
use Rattle.event_runner.specs.Running.{HasLooked}
use Rattle.pass_laws.proofs.CourseLemmas.{called_for-append, handed_over-append, tellings-append, through_freely, through_more, through_none, went_along}
use Rattle.pass_laws.proofs.FirstLemmas.{calls_kept, lost_kept}
use Rattle.pass_laws.specs.Courses.{Course, DoesThrough, HasItsScript}
use Rattle.turner_rounds.proofs.Theorems.{are_served}
use Rattle.turner_rounds.specs.Served.{AreServed, IsWorkersCourse}
use Rattle.seat_laws.proofs.ShiftLemmas.{GoesBy}
use Rattle.seat_laws.specs.Shifts.{Work, freely, tellings}
use Rattle.shared_channel.specs.Passes.{PassView, desk_of}
use Rattle.turner_rounds.proofs.Theorems.{turned_by}
use Rattle.turner_rounds.specs.Pumping.{Pumps}
use Rattle.worker_rounds.proofs.Theorems.{looked_freely}
use Rattle.worker_rounds.specs.Serving.{Serves}
use Rattle.worker_session.proofs.Theorems.{steps_none, steps_then}
use Rattle.worker_session.specs.Stepping.{StepsOn}
use Rattle.worker_session.specs.Turning.{Turning}
use Rattle.shared_session.proofs.GivingLemmas.{look_gives, looks_obey, served_give, served_obey}
use Rattle.shared_session.specs.Looking.{LookEach, Looks}
use Rattle.shared_session.specs.Serving.{HasGone}

pub prefix_on : {A : Type 0} (xs ys zs : List A) → IsPrefix xs ys → IsPrefix ys zs → IsPrefix xs zs
prefix_on xs ys zs p q = (p.0 ++ q.0, sym (append_assoc xs p.0 q.0) ∙ (ap (λ l. l ++ q.0) p.1 ∙ q.1))

pub prefix_same : {A : Type 0} (xs : List A) → IsPrefix xs xs
prefix_same xs = ([], append-nil xs)

module _ (orders : Orders) where
  -- what is done through a pass leaves the setting, and goes on behind what was seen
  pub along : (works : List Work) (old new : PassView) → DoesThrough orders works old new → GoesBy (λ e. true) (desk_of old) (desk_of new)
  along works old new through = went_along orders works (desk_of old) (desk_of new) through.does

  pub seen_on : (works : List Work) (old new : PassView) → DoesThrough orders works old new → IsPrefix old.seen new.seen
  seen_on works old new through = let goes = along works old new through in (goes.since, sym goes.seen)

  -- a look is a work that makes nothing
  pub looked_through : (old new : PassView) → HasLooked (desk_of old) (desk_of new) → DoesThrough orders (freely ∷ []) old new
  looked_through old new looked =
      let free = looked_freely (desk_of old) (desk_of new) looked.goes_on looked.own in
      through_freely orders old new free.goes_on (calls_kept old new looked.goes_on.desk) (lost_kept old new looked.goes_on.desk) free.own

  module _ (setting : Setting) (journal : List Entry) where
    abbrev IsWorkers : Course → Type 0
    IsWorkers = IsWorkersCourse orders setting journal

    -- courses of the same passes, one behind the other
    record Chained (xs ys : List Course) : Type 0 where
      courses : List Course
      befores : map (λ (c : Course). c.before) courses ≡ map (λ (c : Course). c.before) xs
      afters : map (λ (c : Course). c.after) courses ≡ map (λ (c : Course). c.after) ys
      each : AllByRecursion IsWorkers courses

    scripts_more : (xs ys : List Work) → AllByRecursion (HasItsScript setting journal) (tellings xs) → AllByRecursion (HasItsScript setting journal) (tellings ys) → AllByRecursion (HasItsScript setting journal) (tellings (xs ++ ys))
    scripts_more xs ys first more = subst (AllByRecursion (HasItsScript setting journal)) (sym (tellings-append xs ys)) (each-append (HasItsScript setting journal) (tellings xs) (tellings ys) first more)

    chained : (xs ys : List Course) → map (λ (c : Course). c.after) xs ≡ map (λ (c : Course). c.before) ys → AllByRecursion IsWorkers xs → AllByRecursion IsWorkers ys → Chained xs ys
    chained [] [] same first more = record { courses = []; befores = refl; afters = refl; each = tt }
    chained [] (y ∷ ys) same first more = absurd (cc same)
    chained (x ∷ xs) [] same first more = absurd (cc same)
    chained (x ∷ xs) (y ∷ ys) same first more =
        let meets : x.after ≡ y.before = cc same in
        let others : map (λ (c : Course). c.after) xs ≡ map (λ (c : Course). c.before) ys = cc same in
        let rest = chained xs ys others first.1 more.1 in
        let behind : DoesThrough orders y.works x.after y.after = subst (λ p. DoesThrough orders y.works p y.after) (sym meets) more.0.does in
        record {
          courses = record { before = x.before; works = x.works ++ y.works; after = y.after } ∷ rest.courses;
          befores = ap (λ l. x.before ∷ l) rest.befores;
          afters = ap (λ l. y.after ∷ l) rest.afters;
          each = (
            record {
              does = through_more orders x.works y.works x.before x.after y.after first.0.does behind;
              took_none = handed_over-append x.works y.works ∙ ap₂ (λ a b. a ++ b) first.0.took_none more.0.took_none;
              scripts = scripts_more x.works y.works first.0.scripts more.0.scripts;
            },
            rest.each,
          );
        }

    served_more : (owner : PassView) (workers : List PassView) (owner_mid : PassView) (workers_mid : List PassView) (owner_new : PassView) (workers_new : List PassView) →
        AreServed orders setting journal owner workers owner_mid workers_mid → AreServed orders setting journal owner_mid workers_mid owner_new workers_new → AreServed orders setting journal owner workers owner_new workers_new
    served_more owner workers owner_mid workers_mid owner_new workers_new first more =
        let chain = chained first.courses more.courses (first.afters ∙ sym more.befores) first.each more.each in
        record {
          works = first.works ++ more.works;
          does = through_more orders first.works more.works owner owner_mid owner_new first.does more.does;
          for_none = called_for-append first.works more.works ∙ ap₂ (λ a b. a ++ b) first.for_none more.for_none;
          scripts = scripts_more first.works more.works first.scripts more.scripts;
          courses = chain.courses;
          befores = chain.befores ∙ first.befores;
          afters = chain.afters ∙ more.afters;
          each = chain.each;
        }

    -- workers to whom nothing happens, and those who look
    record CoursesBetween (olds news : List PassView) : Type 0 where
      courses : List Course
      befores : map (λ (c : Course). c.before) courses ≡ olds
      afters : map (λ (c : Course). c.after) courses ≡ news
      each : AllByRecursion IsWorkers courses

    still_courses : (workers : List PassView) → CoursesBetween workers workers
    still_courses [] = record { courses = []; befores = refl; afters = refl; each = tt }
    still_courses (w ∷ ws) =
        let rest = still_courses ws in
        record {
          courses = record { before = w; works = []; after = w } ∷ rest.courses;
          befores = ap (λ l. w ∷ l) rest.befores;
          afters = ap (λ l. w ∷ l) rest.afters;
          each = (record { does = through_none orders w w refl; took_none = refl; scripts = tt }, rest.each);
        }

    looked_courses : (olds news : List PassView) (none : Bool) → LookEach none olds news → CoursesBetween olds news
    looked_courses [] [] none looks = record { courses = []; befores = refl; afters = refl; each = tt }
    looked_courses [] (n ∷ ns) none looks = absurd looks
    looked_courses (o ∷ os) [] none looks = absurd looks
    looked_courses (o ∷ os) (n ∷ ns) none looks =
        let rest = looked_courses os ns none looks.1 in
        record {
          courses = record { before = o; works = freely ∷ []; after = n } ∷ rest.courses;
          befores = ap (λ l. o ∷ l) rest.befores;
          afters = ap (λ l. n ∷ l) rest.afters;
          each = (record { does = looked_through o n looks.0.looked; took_none = refl; scripts = tt }, rest.each);
        }

  -- ---- parts of a session

  -- one behind the other
  pub gone_more : (owner : PassView) (workers : List PassView) (old : Turning) (owner_mid : PassView) (workers_mid : List PassView) (middle : Turning) (owner_new : PassView) (workers_new : List PassView) (new : Turning) →
      HasGone orders owner workers old owner_mid workers_mid middle → HasGone orders owner_mid workers_mid middle owner_new workers_new new → HasGone orders owner workers old owner_new workers_new new
  gone_more owner workers old owner_mid workers_mid middle owner_new workers_new new first more = record {
    turner = steps_then old middle new first.turner more.turner;
    served = λ setting journal same p.
        let here = first.served owner.setting owner_mid.seen refl (prefix_same owner_mid.seen) in
        let behind = more.served setting journal ((along here.works owner owner_mid here.does).setting ∙ same) p in
        served_more setting journal owner workers owner_mid workers_mid owner_new workers_new
        (first.served setting journal same (prefix_on owner_mid.seen owner_new.seen journal (seen_on behind.works owner_mid owner_new behind.does) p)) behind;
    gives = λ was. more.gives (first.gives was);
    obeys = λ was. more.obeys (first.obeys was);
  }

  -- the turner alone went on
  pub gone_turned : (owner : PassView) (workers : List PassView) (old new : Turning) → StepsOn old new → HasGone orders owner workers old owner workers new
  gone_turned owner workers old new steps = record {
    turner = steps;
    served = λ setting journal same p.
        let still = still_courses setting journal workers in
        record { works = []; does = through_none orders owner owner refl; for_none = refl; scripts = tt; courses = still.courses; befores = still.befores; afters = still.afters; each = still.each };
    gives = λ was. was;
    obeys = λ was. was;
  }

  pub gone_none : (owner : PassView) (workers : List PassView) (turning : Turning) → HasGone orders owner workers turning owner workers turning
  gone_none owner workers turning = gone_turned owner workers turning turning (steps_none turning)

  -- all other passes looked
  pub gone_looked : (owner : PassView) (workers : List PassView) (turning : Turning) (owner_new : PassView) (workers_new : List PassView) (none all : Bool) → Looks none owner owner_new → LookEach all workers workers_new →
      HasGone orders owner workers turning owner_new workers_new turning
  gone_looked owner workers turning owner_new workers_new none all looks each = record {
    turner = steps_none turning;
    served = λ setting journal same p.
        let looked = looked_courses setting journal workers workers_new all each in
        record { works = freely ∷ []; does = looked_through owner owner_new looks.looked; for_none = refl; scripts = tt; courses = looked.courses; befores = looked.befores; afters = looked.afters; each = looked.each };
    gives = look_gives none owner owner_new looks;
    obeys = looks_obey all workers workers_new each;
  }

  module _ {P : Type 0} (steps : P → Known → P → Known → Type 0) (ends : P → Known → Type 0) (turning : P → Turning) (pumps : (old : P) (before : Known) (new : P) (behind : Known) → steps old before new behind → Pumps (turning old) before (turning new) behind)
      (owner : PassView) (workers : List PassView) (pump : P) (owner_new : PassView) (workers_new : List PassView) (pump_new : P) where
    -- they served, or memory for that was wanting
    pub gone_served : (refused : Bool) → Serves steps ends orders refused owner workers pump owner_new workers_new pump_new → HasGone orders owner workers (turning pump) owner_new workers_new (turning pump_new)
    gone_served true same =
        subst (λ o. HasGone orders owner workers (turning pump) o workers_new (turning pump_new)) (sym same.0)
        (subst (λ ws. HasGone orders owner workers (turning pump) owner ws (turning pump_new)) (sym same.1)
        (subst (λ p. HasGone orders owner workers (turning pump) owner workers (turning p)) (sym same.2) (gone_none owner workers (turning pump))))
    gone_served false served = record {
      turner = turned_by steps turning pumps orders served.deeds (owner, pump) (owner_new, pump_new) served.course;
      served = λ setting journal same p. are_served orders setting journal owner workers pump owner_new workers_new pump_new served same p;
      gives = served_give orders steps ends turning pumps owner workers pump owner_new workers_new pump_new served;
      obeys = served_obey orders steps ends turning pumps owner workers pump owner_new workers_new pump_new served;
    }
