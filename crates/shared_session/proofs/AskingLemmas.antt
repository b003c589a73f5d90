-- What is done through the turner's pass: requests are accepted, and then the turner goes on; nobody's callback is called through it.
use Rattle.std.proofs.Common.{◌≡◌, ◌∙◌, ℕ, ◌==◌, ◌-◌, ◌^◌, ◌&&◌, ◌||◌, Bool, true, false, not, List, [], ◌∷◌, ◌++◌, Result, Ok, Err, None, is_some, min, refl, sym, ap, ap₂, subst, append_assoc, arith}
use Rattle.std.proofs.lemmas.Bool.{and_from, and_parts}
use Rattle.std.proofs.lemmas.List.{append-nil}
use Rattle.std.proofs.lemmas.List.Folds.{list_all-append}
use Rattle.std.specs.List.{list_all}
use Rattle.chan_types.specs.declared.journal.Entry.{Entry}
use Rattle.chan_types.specs.declared.journal.What.{What}
use Rattle.chan_types.specs.declared.journal.What.TheVariants.{Accept, Arrive, Cancel, Destroy, Expire, Fault, Servers, Start, Take}
use Rattle.chan_types.specs.Plans.{Plan}
use Rattle.chan_types.specs.declared.orders.Orders.{Orders}
use Rattle.chan_types.specs.declared.spec.Spec.{Spec}
use Rattle.channel_model.specs.Commands.{accepted_for}
use Rattle.channel_model.specs.Completion.{taken_by}
use Rattle.channel_model.specs.Course.{is_of_turn}
use Rattle.channel_model.specs.Journal.{is_destroy, own_entries}
use Rattle.channel_model.specs.Known.{Calls, GoesOn}
use Rattle.channel_model.specs.Meanings.{Accepts}
use Rattle.channel_model.specs.Seen.{entries_of}
use Rattle.channel_model.specs.Servers.{servers_set_by}
use Rattle.channel_model.specs.declared.answers.Refused.{Refused}
use Rattle.completion_ticket.specs.States.{CallbackState}
use Rattle.pass_laws.proofs.CourseLemmas.{called_for-append, handed_over-append, makes_call, tellings-append, through_freely, through_more, through_none}
use Rattle.pass_laws.proofs.FirstLemmas.{calls_kept, lost_kept}
use Rattle.pass_laws.specs.Courses.{DoesThrough}
use Rattle.seat_laws.proofs.ListLemmas.{all_pass}
use Rattle.seat_laws.specs.Shifts.{Work, called_for, freely, handed_over, is_free, tellings}
use Rattle.shared_channel.proofs.Theorems.{stays, stays_accept, stays_more, stays_same, went_as_desk}
use Rattle.shared_channel.specs.Passes.{PassView, desk_of}
use Rattle.shared_channel.specs.Settling.{taken_in}
use Rattle.shared_channel.specs.Staying.{StaysSettled}
use Rattle.shared_channel.specs.Under.{plan_of}
use Rattle.worker_session.specs.Stepping.{is_of_run}
use Rattle.shared_session.proofs.AskedLemmas.{accepted_parts, asks_none, run_asks, unasked}
use Rattle.shared_session.specs.Asking.{AcceptsEach, AsksAll, AsksOne, EndsAsking, asking_of, askings}

-- ---- works on nobody's command, by which nothing is taken

module _ (orders : Orders) where
  -- such works were done through a pass
  pub record GoesFree (old new : PassView) : Type 0 where
    pub works : List Work
    pub through : DoesThrough orders works old new
    pub for_none : called_for works ≡ []
    pub took_none : handed_over works ≡ []
    pub untold : tellings works ≡ []

  pub free_none : (old new : PassView) → new ≡ old → GoesFree old new
  free_none old new same = record { works = []; through = through_none orders old new same; for_none = refl; took_none = refl; untold = refl }

  pub free_more : (old middle new : PassView) → GoesFree old middle → GoesFree middle new → GoesFree old new
  free_more old middle new first more = record {
    works = first.works ++ more.works;
    through = through_more orders first.works more.works old middle new first.through more.through;
    for_none = called_for-append first.works more.works ∙ ap₂ (λ a b. a ++ b) first.for_none more.for_none;
    took_none = handed_over-append first.works more.works ∙ ap₂ (λ a b. a ++ b) first.took_none more.took_none;
    untold = tellings-append first.works more.works ∙ ap₂ (λ a b. a ++ b) first.untold more.untold;
  }

  -- a desk that went on by itself
  pub free_goes : (old new : PassView) (goes : GoesOn (desk_of old) (desk_of new)) → list_all is_free (own_entries old.number goes.since) ≡ true → GoesFree old new
  free_goes old new goes free = record { works = freely ∷ []; through = through_freely orders old new goes (calls_kept old new goes.desk) (lost_kept old new goes.desk) free; for_none = refl; took_none = refl; untold = refl }

  -- a call
  free_call : (old new : PassView) (spec : Spec) (token : CallbackState) (reply : Result ℕ (Refused CallbackState)) (call : Calls (Accepts plan_of spec token reply) 0 (desk_of old) (desk_of new)) → list_all is_free (entries_of old.number 0 call.added) ≡ true → GoesFree old new
  free_call old new spec token reply call free = record {
    works = freely ∷ [];
    through = record {
      does = (desk_of new, (entries_of old.number 0 call.added, makes_call (Accepts plan_of spec token reply) 0 (desk_of old) (desk_of new) call, free), refl);
      calls = calls_kept old new call.desk ∙ sym (append-nil old.calls);
      lost = ap (λ n. min n (2 ^ 64 - 1)) (lost_kept old new call.desk) ∙ omega arith;
    };
    for_none = refl;
    took_none = refl;
    untold = refl;
  }

  pub free_one : (done : Bool) (request : Spec × CallbackState) (old new : PassView) → AsksOne done request old new → GoesFree old new
  free_one true request old new one = free_call old new request.0 request.1 (Ok one.0) one.1 (ap (λ added. list_all is_free (entries_of old.number 0 added)) one.1.meant.0)
  free_one false request old new one = free_call old new request.0 request.1 (Err one.0) one.1 (ap (λ added. list_all is_free (entries_of old.number 0 added)) one.1.meant.0)

  free_each : (requests : List (Spec × CallbackState)) (old new : PassView) → AcceptsEach requests old new → GoesFree old new
  free_each [] old new same = free_none old new same
  free_each (r ∷ rs) old new each = free_more old each.0 new (free_one true r old each.0 each.1) (free_each rs each.0 new each.2)

  free_end : (all : Bool) (left : List (Spec × CallbackState)) (old new : PassView) → EndsAsking all left old new → GoesFree old new
  free_end true left old new ends = free_none old new ends.1
  free_end false left old new ends = free_one false ends.0 old new ends.3

  pub free_asks : (requests : List (Spec × CallbackState)) (all : Bool) (old new : PassView) → AsksAll requests all old new → GoesFree old new
  free_asks requests all old new asks = free_more old asks.middle new (free_each asks.asked old asks.middle asks.accepts) (free_end all asks.left asks.middle new asks.ends)

-- ---- the pass stays settled

stays_one : (done : Bool) (request : Spec × CallbackState) (old new : PassView) → AsksOne done request old new → StaysSettled old new
stays_one true request old new one = stays_accept request.0 request.1 (Ok one.0) old new one.1
stays_one false request old new one = stays_accept request.0 request.1 (Err one.0) old new one.1

stays_each : (requests : List (Spec × CallbackState)) (old new : PassView) → AcceptsEach requests old new → StaysSettled old new
stays_each [] old new same = stays_same old new same
stays_each (r ∷ rs) old new each = stays_more old each.0 new (stays_one true r old each.0 each.1) (stays_each rs each.0 new each.2)

stays_end : (all : Bool) (left : List (Spec × CallbackState)) (old new : PassView) → EndsAsking all left old new → StaysSettled old new
stays_end true left old new ends = stays_same old new ends.1
stays_end false left old new ends = stays_one false ends.0 old new ends.3

pub stays_asks : (requests : List (Spec × CallbackState)) (all : Bool) (old new : PassView) → AsksAll requests all old new → StaysSettled old new
stays_asks requests all old new asks = stays_more old asks.middle new (stays_each asks.asked old asks.middle asks.accepts) (stays_end all asks.left asks.middle new asks.ends)

-- ---- a turner's steps

-- what only a run makes takes nothing
run_takes : (seat by : ℕ) (what : What) → is_of_run (record { seat = seat; by = by; what = what }) ≡ true → taken_by what ≡ None
run_takes seat by (Accept number spec script) run = refl
run_takes seat by Cancel run = refl
run_takes seat by Destroy run = refl
run_takes seat by (Take number) run = absurd (cc run)
run_takes seat by (Start number leg server link id mix moment) run = refl
run_takes seat by (Arrive server link bytes) run = refl
run_takes seat by (Expire number leg moment) run = refl
run_takes seat by (Fault server link moment) run = refl
run_takes seat by (Servers list) run = refl

runs_take : (es : List Entry) → list_all is_of_run es ≡ true → taken_in es ≡ []
runs_take [] all = refl
runs_take (e ∷ es) all =
    let parts = and_parts (is_of_run e) (list_all is_of_run es) all in
    rw (run_takes e.seat e.by e.what parts.0) (runs_take es parts.1)

runs_free : (es : List Entry) → list_all is_of_run es ≡ true → list_all is_free es ≡ true
runs_free [] all = refl
runs_free (e ∷ es) all =
    let parts = and_parts (is_of_run e) (list_all is_of_run es) all in
    let two = and_parts (is_of_turn e || is_some (servers_set_by e.what)) (e.by == 0) parts.0 in
    and_from (is_free e) (list_all is_free es) (and_from (not (is_some (taken_by e.what))) (e.by == 0) (ap (λ found. not (is_some found)) (run_takes e.seat e.by e.what parts.0)) two.1) (runs_free es parts.1)

module _ (old new : PassView) (goes : GoesOn (desk_of old) (desk_of new)) (own : list_all is_of_run (own_entries old.number goes.since) ≡ true) where
  pub free_steps : (orders : Orders) → GoesFree orders old new
  free_steps orders = free_goes orders old new goes (runs_free (own_entries old.number goes.since) own)

  pub stays_steps : StaysSettled old new
  stays_steps = stays old new (went_as_desk old new goes (runs_take (own_entries old.number goes.since) own))

-- ---- loops

pub accepts_more : (requests : List (Spec × CallbackState)) (request : Spec × CallbackState) (old middle new : PassView) → AcceptsEach requests old middle → AsksOne true request middle new → AcceptsEach (requests ++ request ∷ []) old new
accepts_more [] request old middle new same one = (new, subst (λ p. AsksOne true request p new) same one, refl)
accepts_more (r ∷ rs) request old middle new each one = (each.0, each.1, accepts_more rs request each.0 middle new each.2 one)

-- so far the first of these requests were accepted
pub record IsAsking (all left : List (Spec × CallbackState)) (old now : PassView) : Type 0 where
  pub asked : List (Spec × CallbackState)
  pub parts : asked ++ left ≡ all
  pub accepts : AcceptsEach asked old now

pub asking_none : (all left : List (Spec × CallbackState)) (old now : PassView) → left ≡ all → now ≡ old → IsAsking all left old now
asking_none all left old now left_is same = record { asked = []; parts = left_is; accepts = same }

pub asking_more : (all left rest : List (Spec × CallbackState)) (request : Spec × CallbackState) (old now new : PassView) → IsAsking all left old now → left ≡ request ∷ rest → AsksOne true request now new → IsAsking all rest old new
asking_more all left rest request old now new so_far front one = record {
  asked = so_far.asked ++ request ∷ [];
  parts = append_assoc so_far.asked (request ∷ []) rest ∙ ap (λ l. so_far.asked ++ l) (sym front) ∙ so_far.parts;
  accepts = accepts_more so_far.asked request old now new so_far.accepts one;
}

pub asking_all : (all left : List (Spec × CallbackState)) (old now new : PassView) → IsAsking all left old now → left ≡ [] → new ≡ now → AsksAll all true old new
asking_all all left old now new so_far none same = record { asked = so_far.asked; left = left; parts = sym so_far.parts; middle = now; accepts = so_far.accepts; ends = (none, same) }

pub asking_refused : (all left rest : List (Spec × CallbackState)) (request : Spec × CallbackState) (old now middle new : PassView) → IsAsking all left old now → left ≡ request ∷ rest → AsksOne false request now middle → new ≡ middle → AsksAll all false old new
asking_refused all left rest request old now middle new so_far front one same = record {
  asked = so_far.asked;
  left = left;
  parts = sym so_far.parts;
  middle = now;
  accepts = so_far.accepts;
  ends = (request, rest, front, subst (AsksOne false request now) (sym same) one);
}

-- ---- what the first pass made passes a test

module _ (g : Entry → Bool) where
  own_more : (old new : PassView) (made : List Entry) → new.own ≡ old.own ++ made → list_all g old.own ≡ true → list_all g made ≡ true → list_all g new.own ≡ true
  own_more old new made own was more = ap (list_all g) own ∙ list_all-append g old.own made ∙ and_from (list_all g old.own) (list_all g made) was more

  module _ (accepts : (seat number : ℕ) (spec : Spec) (script : Plan) → g (record { seat = seat; by = 0; what = Accept number spec script }) ≡ true) where
    own_one : (done : Bool) (request : Spec × CallbackState) (old new : PassView) → AsksOne done request old new → list_all g old.own ≡ true → list_all g new.own ≡ true
    own_one true request old new one was =
        own_more old new (record { seat = old.number; by = 0; what = Accept one.0 request.0 (plan_of request.1) } ∷ []) (one.1.own ∙ ap (λ added. old.own ++ entries_of old.number 0 added) one.1.meant.0) was
        (and_from (g (record { seat = old.number; by = 0; what = Accept one.0 request.0 (plan_of request.1) })) true (accepts old.number one.0 request.0 (plan_of request.1)) refl)
    own_one false request old new one was = own_more old new [] (one.1.own ∙ ap (λ added. old.own ++ entries_of old.number 0 added) one.1.meant.0) was refl

    own_each : (requests : List (Spec × CallbackState)) (old new : PassView) → AcceptsEach requests old new → list_all g old.own ≡ true → list_all g new.own ≡ true
    own_each [] old new same was = ap (λ (p : PassView). list_all g p.own) same ∙ was
    own_each (r ∷ rs) old new each was = own_each rs each.0 new each.2 (own_one true r old each.0 each.1 was)

    own_end : (all : Bool) (left : List (Spec × CallbackState)) (old new : PassView) → EndsAsking all left old new → list_all g old.own ≡ true → list_all g new.own ≡ true
    own_end true left old new ends was = ap (λ (p : PassView). list_all g p.own) ends.1 ∙ was
    own_end false left old new ends was = own_one false ends.0 old new ends.3 was

    pub own_asks : (requests : List (Spec × CallbackState)) (all : Bool) (old new : PassView) → AsksAll requests all old new → list_all g old.own ≡ true → list_all g new.own ≡ true
    own_asks requests all old new asks was = own_end all asks.left asks.middle new asks.ends (own_each asks.asked old asks.middle asks.accepts was)

  pub own_steps : ((e : Entry) → is_of_run e ≡ true → g e ≡ true) → (old new : PassView) (goes : GoesOn (desk_of old) (desk_of new)) → list_all is_of_run (own_entries old.number goes.since) ≡ true → list_all g old.own ≡ true → list_all g new.own ≡ true
  own_steps follows old new goes own was = own_more old new (own_entries old.number goes.since) goes.own was (all_pass is_of_run g follows (own_entries old.number goes.since) own)

-- what only a run makes destroys nothing
pub run_open : (seat by : ℕ) (what : What) (b : Bool) → is_of_run (record { seat = seat; by = by; what = what }) ≡ true → not (is_destroy what && b) ≡ true
run_open seat by (Accept number spec script) b run = refl
run_open seat by Cancel b run = refl
run_open seat by Destroy b run = absurd (cc run)
run_open seat by (Take number) b run = refl
run_open seat by (Start number leg server link id mix moment) b run = refl
run_open seat by (Arrive server link bytes) b run = refl
run_open seat by (Expire number leg moment) b run = refl
run_open seat by (Fault server link moment) b run = refl
run_open seat by (Servers list) b run = refl

-- ---- which requests were accepted through the pass

accepts_one : (request : Spec × CallbackState) (old new : PassView) → AsksOne true request old new → accepted_for 0 new.own ≡ accepted_for 0 old.own ++ asking_of request ∷ []
accepts_one request old new one =
    ap (accepted_for 0) (one.1.own ∙ ap (λ added. old.own ++ entries_of old.number 0 added) one.1.meant.0)
    ∙ accepted_parts old.own (record { seat = old.number; by = 0; what = Accept one.0 request.0 (plan_of request.1) } ∷ [])

accepts_each : (requests : List (Spec × CallbackState)) (old new : PassView) → AcceptsEach requests old new → accepted_for 0 new.own ≡ accepted_for 0 old.own ++ askings requests
accepts_each [] old new same = ap (λ (p : PassView). accepted_for 0 p.own) same ∙ sym (append-nil (accepted_for 0 old.own))
accepts_each (r ∷ rs) old new each =
    accepts_each rs each.0 new each.2 ∙ ap (λ l. l ++ askings rs) (accepts_one r old each.0 each.1) ∙ append_assoc (accepted_for 0 old.own) (asking_of r ∷ []) (askings rs)

accepts_end : (all : Bool) (left : List (Spec × CallbackState)) (old new : PassView) → EndsAsking all left old new → accepted_for 0 new.own ≡ accepted_for 0 old.own
accepts_end true left old new ends = ap (λ (p : PassView). accepted_for 0 p.own) ends.1
accepts_end false left old new ends = ap (accepted_for 0) (ends.3.1.own ∙ ap (λ added. old.own ++ entries_of old.number 0 added) ends.3.1.meant.0 ∙ append-nil old.own)

pub accepts_asked : (requests : List (Spec × CallbackState)) (all : Bool) (old new : PassView) (asks : AsksAll requests all old new) → old.own ≡ [] → accepted_for 0 new.own ≡ askings asks.asked
accepts_asked requests all old new asks none = accepts_end all asks.left asks.middle new asks.ends ∙ accepts_each asks.asked old asks.middle asks.accepts ∙ ap (λ es. accepted_for 0 es ++ askings asks.asked) none

-- a turner accepts none
pub accepts_steps : (old new : PassView) (goes : GoesOn (desk_of old) (desk_of new)) → list_all is_of_run (own_entries old.number goes.since) ≡ true → accepted_for 0 new.own ≡ accepted_for 0 old.own
accepts_steps old new goes own =
    ap (accepted_for 0) goes.own ∙ accepted_parts old.own (own_entries old.number goes.since)
    ∙ ap (λ l. accepted_for 0 old.own ++ l) (unasked (own_entries old.number goes.since) (all_pass is_of_run asks_none (λ e run. run_asks e.seat e.by e.what (e.by == 0) run) (own_entries old.number goes.since) own))
    ∙ append-nil (accepted_for 0 old.own)
