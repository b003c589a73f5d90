-- A channel that was served with workers: what was done through each of its places, as the laws of passes see it.
use Rattle.std.proofs.Common.{◌≡◌, ◌∙◌, List, [], ◌∷◌, ◌++◌, Some, true, flat_map, map, refl, sym, ap, subst, append_assoc}
use Rattle.std.proofs.lemmas.List.Elements.{All-from_recursion, recursion_from_All}
use Rattle.std.proofs.lemmas.List.Sorted.{All-permutation}
use Rattle.std.specs.List.{AllByRecursion}
use mathlib.Core.List.{IsPrefix}
use Rattle.chan_types.specs.declared.journal.Entry.{Entry}
use Rattle.chan_types.specs.declared.orders.Orders.{Orders}
use Rattle.channel_model.specs.Journal.{past_of, script_of}
use Rattle.channel_model.specs.Known.{Calls, Known}
use Rattle.channel_model.specs.Meanings.{Takes}
use Rattle.channel_model.specs.Setting.{Setting}
use Rattle.delivery_pool.specs.Spending.{SpendsEach}
use Rattle.pass_laws.proofs.CourseLemmas.{telling_of, through_calling, through_delivering, through_freely, through_more, through_none, through_taking, went_along}
use Rattle.pass_laws.proofs.FirstLemmas.{calls_kept, lost_kept, through_finding, ticket_of_request}
use Rattle.pass_laws.proofs.ListLemmas.{each_parts}
use Rattle.pass_laws.specs.Courses.{Course, DoesThrough, HasItsScript}
use Rattle.pooled_places.specs.Delivery.{SpendsTicket}
use Rattle.pooled_places.specs.Tickets.{TicketState}
use Rattle.seat_laws.proofs.ShiftLemmas.{GoesBy}
use Rattle.seat_laws.specs.Shifts.{IsOfRequest, Telling, Work, called_for, calling, delivering as delivering_work, freely, handed_over, taking as taking_work, tellings}
use Rattle.shared_channel.specs.Passes.{PassView, desk_of}
use Rattle.shared_channel.specs.Spending.{Spends}
use Rattle.shared_channel.specs.Under.{plan_of}
use Rattle.worker_rounds.specs.Course.{Deed, DoesEach, delivering, finding_none, stepping, taking, tickets_spent, tickets_taken}
use Rattle.worker_rounds.specs.Serving.{HasServed, IsStint, Stint}
use Rattle.turner_rounds.specs.Served.{AreServed, IsWorkersCourse}

-- a ticket is of its request, in a journal
abbrev IsTicketIn : Setting → List Entry → TicketState → Type 0
IsTicketIn setting journal its = IsOfRequest setting journal (telling_of its.ticket 0)

-- the tellings are those of these tickets, one by one
abbrev TellsTickets : List Telling → List TicketState → Type 0
TellsTickets [] [] = Unit {0}
TellsTickets [] (its ∷ tickets) = ⊥
TellsTickets (telling ∷ more) [] = ⊥
TellsTickets (telling ∷ more) (its ∷ tickets) = (telling.answer ≡ its.ticket.call) × (telling.script ≡ its.ticket.token.plan) × TellsTickets more tickets

-- so each has its request's script
tells_scripts : (setting : Setting) (journal : List Entry) (ts : List Telling) (tickets : List TicketState) → TellsTickets ts tickets → AllByRecursion (IsTicketIn setting journal) tickets → AllByRecursion (HasItsScript setting journal) ts
tells_scripts setting journal [] [] tells each = tt
tells_scripts setting journal [] (its ∷ tickets) tells each = absurd tells
tells_scripts setting journal (t ∷ ts) [] tells each = absurd tells
tells_scripts setting journal (t ∷ ts) (its ∷ tickets) tells each = (
  ap (λ answer. script_of answer.number (past_of journal)) tells.0 ∙ each.0.scripted ∙ ap Some (sym tells.1),
  tells_scripts setting journal ts tickets tells.2 each.1,
)

prefix_on : {A : Type 0} (xs ys zs : List A) → IsPrefix xs ys → IsPrefix ys zs → IsPrefix xs zs
prefix_on xs ys zs p q = (p.0 ++ q.0, sym (append_assoc xs p.0 q.0) ∙ (ap (λ l. l ++ q.0) p.1 ∙ q.1))

module _ (orders : Orders) where
  -- ---- a worker's stint

  record WorksAsStint (tickets : List TicketState) (old new : PassView) : Type 0 where
    works : List Work
    through : DoesThrough orders works old new
    took_none : handed_over works ≡ []
    tells : TellsTickets (tellings works) tickets

  -- what a worker spent through its place it called for others
  stint_works : (tickets : List TicketState) (old new : Orders × PassView) → old.0 ≡ orders → SpendsEach SpendsTicket old tickets new → WorksAsStint tickets old.1 new.1
  stint_works [] old new given same = record { works = []; through = through_none orders old.1 new.1 (ap (λ p. p.1) same); took_none = refl; tells = tt }
  stint_works (its ∷ tickets) old new given spends =
      let middle : Orders × PassView = spends.0 in
      let spent : Spends orders its.ticket old.1 spends.1.1 middle.1 = subst (λ o. Spends o its.ticket old.1 spends.1.1 middle.1) given spends.1.2 in
      let rest = stint_works tickets middle new (spends.1.0 ∙ given) spends.2 in
      record {
        works = calling (telling_of its.ticket spent.count) ∷ rest.works;
        through = through_more orders (calling (telling_of its.ticket spent.count) ∷ []) rest.works old.1 middle.1 new.1 (through_calling orders its.ticket spends.1.1 old.1 middle.1 spent) rest.through;
        took_none = rest.took_none;
        tells = (refl, refl, rest.tells);
      }

  -- ---- the owner's course

  module _ {P : Type 0} (steps : P → Known → P → Known → Type 0) (setting : Setting) (journal : List Entry) where
    record WorksAsOwner (deeds : List Deed) (old new : PassView) : Type 0 where
      works : List Work
      through : DoesThrough orders works old new
      for_none : called_for works ≡ []
      tells : TellsTickets (tellings works) (tickets_spent deeds)
      of_requests : IsPrefix new.seen journal → AllByRecursion (IsTicketIn setting journal) (tickets_taken deeds)

    -- the setting stays, and what is seen goes on
    setting_on : (works : List Work) (old new : PassView) → DoesThrough orders works old new → old.setting ≡ setting → new.setting ≡ setting
    setting_on works old new through same = (went_along orders works (desk_of old) (desk_of new) through.does).setting ∙ same

    seen_on : (works : List Work) (old new : PassView) → DoesThrough orders works old new → IsPrefix new.seen journal → IsPrefix old.seen journal
    seen_on works old new through p =
        let along : GoesBy (λ e. true) (desk_of old) (desk_of new) = went_along orders works (desk_of old) (desk_of new) through.does in
        prefix_on old.seen new.seen journal (along.since, sym along.seen) p

    owner_works : (deeds : List Deed) (old new : PassView × P) → old.0.setting ≡ setting → DoesEach steps orders deeds old new → WorksAsOwner deeds old.0 new.0
    owner_works [] old new same does = record { works = []; through = through_none orders old.0 new.0 (ap (λ p. p.0) does); for_none = refl; tells = tt; of_requests = λ p. tt }
    owner_works (taking its ∷ deeds) old new same does =
        let middle : PassView × P = does.0 in
        let call : Calls (Takes plan_of (Some its.ticket)) 0 (desk_of old.0) (desk_of middle.0) = does.1.0.0 in
        let one : DoesThrough orders (taking_work its.ticket.call.number ∷ []) old.0 middle.0 = through_taking orders its.ticket old.0 middle.0 call (calls_kept old.0 middle.0 call.desk) (lost_kept old.0 middle.0 call.desk) in
        let rest = owner_works deeds middle new (setting_on (taking_work its.ticket.call.number ∷ []) old.0 middle.0 one same) does.2 in
        record {
          works = taking_work its.ticket.call.number ∷ rest.works;
          through = through_more orders (taking_work its.ticket.call.number ∷ []) rest.works old.0 middle.0 new.0 one rest.through;
          for_none = rest.for_none;
          tells = rest.tells;
          of_requests = λ p. (ticket_of_request setting journal its.ticket (desk_of old.0) (desk_of middle.0) 0 same call (seen_on rest.works middle.0 new.0 rest.through p), rest.of_requests p);
        }
    owner_works (delivering its ∷ deeds) old new same does =
        let middle : PassView × P = does.0 in
        let took : PassView = does.1.0 in
        let call : Calls (Takes plan_of (Some its.ticket)) 0 (desk_of old.0) (desk_of took) = does.1.2.0 in
        let spent : Spends orders its.ticket took does.1.1 middle.0 = does.1.3 in
        let work : Work = delivering_work (telling_of its.ticket spent.count) in
        let one : DoesThrough orders (delivering_work (telling_of its.ticket spent.count) ∷ []) old.0 middle.0 =
        through_delivering orders its.ticket does.1.1 old.0 took middle.0 call (calls_kept old.0 took call.desk) (lost_kept old.0 took call.desk) spent in
        let after_take : DoesThrough orders (calling (telling_of its.ticket spent.count) ∷ []) took middle.0 = through_calling orders its.ticket does.1.1 took middle.0 spent in
        let rest = owner_works deeds middle new (setting_on (work ∷ []) old.0 middle.0 one same) does.2 in
        record {
          works = work ∷ rest.works;
          through = through_more orders (work ∷ []) rest.works old.0 middle.0 new.0 one rest.through;
          for_none = rest.for_none;
          tells = (refl, refl, rest.tells);
          of_requests = λ p. (
            ticket_of_request setting journal its.ticket (desk_of old.0) (desk_of took) 0 same call
                (seen_on (calling (telling_of its.ticket spent.count) ∷ []) took middle.0 after_take (seen_on rest.works middle.0 new.0 rest.through p)),
            rest.of_requests p,
          );
        }
    owner_works (finding_none ∷ deeds) old new same does =
        let middle : PassView × P = does.0 in
        let one : DoesThrough orders (freely ∷ []) old.0 middle.0 = through_finding orders old.0 middle.0 does.1.0 in
        let rest = owner_works deeds middle new (setting_on (freely ∷ []) old.0 middle.0 one same) does.2 in
        record {
          works = freely ∷ rest.works;
          through = through_more orders (freely ∷ []) rest.works old.0 middle.0 new.0 one rest.through;
          for_none = rest.for_none;
          tells = rest.tells;
          of_requests = rest.of_requests;
        }
    owner_works (stepping ∷ deeds) old new same does =
        let middle : PassView × P = does.0 in
        let free = does.1.0 in
        let one : DoesThrough orders (freely ∷ []) old.0 middle.0 =
        through_freely orders old.0 middle.0 free.goes_on (calls_kept old.0 middle.0 free.goes_on.desk) (lost_kept old.0 middle.0 free.goes_on.desk) free.own in
        let rest = owner_works deeds middle new (setting_on (freely ∷ []) old.0 middle.0 one same) does.2 in
        record {
          works = freely ∷ rest.works;
          through = through_more orders (freely ∷ []) rest.works old.0 middle.0 new.0 one rest.through;
          for_none = rest.for_none;
          tells = rest.tells;
          of_requests = rest.of_requests;
        }

  -- ---- all places

  record CoursesOf (setting : Setting) (journal : List Entry) (stints : List Stint) : Type 0 where
    courses : List Course
    befores : map (λ (c : Course). c.before) courses ≡ map (λ (s : Stint). s.old) stints
    afters : map (λ (c : Course). c.after) courses ≡ map (λ (s : Stint). s.new) stints
    each : AllByRecursion (IsWorkersCourse orders setting journal) courses

  courses_of : (setting : Setting) (journal : List Entry) (stints : List Stint) → AllByRecursion (IsStint orders) stints → AllByRecursion (IsTicketIn setting journal) (flat_map (λ (s : Stint). s.tickets) stints) → CoursesOf setting journal stints
  courses_of setting journal [] each tickets = record { courses = []; befores = refl; afters = refl; each = tt }
  courses_of setting journal (s ∷ stints) each tickets =
      let split = each_parts (IsTicketIn setting journal) s.tickets (flat_map (λ (x : Stint). x.tickets) stints) tickets in
      let one = stint_works s.tickets (orders, s.old) (orders, s.new) refl each.0 in
      let rest = courses_of setting journal stints each.1 split.1 in
      record {
        courses = record { before = s.old; works = one.works; after = s.new } ∷ rest.courses;
        befores = ap (λ l. s.old ∷ l) rest.befores;
        afters = ap (λ l. s.new ∷ l) rest.afters;
        each = (record { does = one.through; took_none = one.took_none; scripts = tells_scripts setting journal (tellings one.works) s.tickets one.tells split.0 }, rest.each);
      }

pub are_served : {P : Type 0} {steps : P → Known → P → Known → Type 0} {ends : P → Known → Type 0} (orders : Orders) (setting : Setting) (journal : List Entry) → (owner : PassView) (workers : List PassView) (pump_old : P) (owner_new : PassView) →
    (workers_new : List PassView) (pump_new : P) → HasServed steps ends orders owner workers pump_old owner_new workers_new pump_new → owner.setting ≡ setting → IsPrefix owner_new.seen journal → AreServed orders setting journal owner workers owner_new workers_new
are_served {steps = steps} orders setting journal owner workers pump_old owner_new workers_new pump_new served same p =
    let mine = owner_works orders steps setting journal served.deeds (owner, pump_old) (owner_new, pump_new) same served.course in
    let tickets = recursion_from_All (IsTicketIn setting journal) (tickets_spent served.deeds ++ flat_map (λ (s : Stint). s.tickets) served.stints)
    (All-permutation (IsTicketIn setting journal) (tickets_taken served.deeds) (tickets_spent served.deeds ++ flat_map (λ (s : Stint). s.tickets) served.stints) served.once
    (All-from_recursion (IsTicketIn setting journal) (tickets_taken served.deeds) (mine.of_requests p))) in
    let split = each_parts (IsTicketIn setting journal) (tickets_spent served.deeds) (flat_map (λ (s : Stint). s.tickets) served.stints) tickets in
    let others = courses_of orders setting journal served.stints served.each split.1 in
    record {
      works = mine.works;
      does = mine.through;
      for_none = mine.for_none;
      scripts = tells_scripts setting journal (tellings mine.works) (tickets_spent served.deeds) mine.tells split.0;
      courses = others.courses;
      befores = others.befores ∙ served.olds;
      afters = others.afters ∙ served.news;
      each = others.each;
    }
