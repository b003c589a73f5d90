-- What calls through a fleet's passes leave of its berths.
use Rattle.std.proofs.Common.{◌≡◌, ◌∙◌, ℕ, Bool, List, [], ◌∷◌, ◌++◌, Result, Ok, Err, refl, sym, subst, ap, append-nil, append_assoc}
use Rattle.chan_types.specs.declared.spec.Spec.{Spec}
use Rattle.channel_fleet.specs.Calling.{Asks, CallsBerth, CallsEach, ChangesAt, ShowsBerth}
use Rattle.channel_fleet.specs.Fronts.{UsesBerth, UsesEach}
use Rattle.channel_fleet.specs.Routing.{route_of}
use Rattle.channel_fleet.specs.Staying.{BerthsStay}
use Rattle.channel_fleet.specs.Views.{BerthView}
use Rattle.channel_fleet.specs.declared.asked.Asked.{Asked}
use Rattle.channel_fleet.specs.declared.shown.Shown.{Shown}
use Rattle.channel_model.specs.Known.{Calls}
use Rattle.channel_model.specs.Meanings.{Accepts, Cancels, Destroys, Meaning}
use Rattle.channel_model.specs.declared.answers.Refused.{Refused}
use Rattle.completion_ticket.specs.States.{CallbackState}
use Rattle.shared_channel.specs.Passes.{PassView, desk_of}
use Rattle.shared_channel.specs.Staying.{StaysSettled}
use Rattle.shared_channel.specs.Under.{plan_of}
use Rattle.shared_channel.proofs.Theorems.{stays_accept, stays_cancel, stays_destroy, stays_more, stays_none}

-- a berth to which nothing happens
use_none : (berth : BerthView) → UsesBerth berth berth
use_none berth = record { same = refl; settled = stays_none berth.pass; further = ([], append-nil berth.shown) }

-- a call through a berth's pass that leaves it settled
use_call : (meaning : Meaning) → ((from to : PassView) → Calls meaning 0 (desk_of from) (desk_of to) → StaysSettled from to) → (from to : BerthView) → CallsBerth meaning from to → UsesBerth from to
use_call meaning keeps from to calls = record {
  same = calls.pass.same;
  settled = keeps from.pass to.pass calls.pass.call;
  further = ([], append-nil from.shown ∙ sym calls.unseen);
}

use_more : (old middle new : BerthView) → UsesBerth old middle → UsesBerth middle new → UsesBerth old new
use_more old middle new first second = record {
  same = second.same ∙ ap (λ (p : PassView). record p { own = new.pass.own; seen = new.pass.seen }) first.same;
  settled = stays_more old.pass middle.pass new.pass first.settled second.settled;
  further = (
    first.further.0 ++ second.further.0,
    sym (append_assoc old.shown first.further.0 second.further.0) ∙ ap (λ l. l ++ second.further.0) first.further.1 ∙ second.further.1,
  );
}

-- berths to which nothing happens, and berths that are used again
pub uses_none : (berths : List BerthView) → UsesEach berths berths
uses_none [] = tt
uses_none (b ∷ bs) = (use_none b, uses_none bs)

pub uses_more : (olds middles news : List BerthView) → UsesEach olds middles → UsesEach middles news → UsesEach olds news
uses_more [] [] [] first second = tt
uses_more [] [] (n ∷ ns) first second = absurd second
uses_more [] (m ∷ ms) news first second = absurd first
uses_more (o ∷ os) [] news first second = absurd first
uses_more (o ∷ os) (m ∷ ms) [] first second = absurd second
uses_more (o ∷ os) (m ∷ ms) (n ∷ ns) first second = (use_more o m n first.0 second.0, uses_more os ms ns first.1 second.1)

-- something is done through one of them
changed_use : (channel : ℕ) (changes : BerthView → BerthView → Type 0) (old new : List BerthView) → ((from to : BerthView) → changes from to → UsesBerth from to) → ChangesAt channel changes old new → UsesEach old new
changed_use channel changes old new keeps its = subst (UsesEach old) (sym its.is) (subst (λ l. UsesEach l (its.earlier ++ its.to ∷ its.behind)) (sym its.was) (go its.earlier))
  where
    go : (bs : List BerthView) → UsesEach (bs ++ its.from ∷ its.behind) (bs ++ its.to ∷ its.behind)
    go [] = (keeps its.from its.to its.changed, uses_none its.behind)
    go (b ∷ bs) = (use_none b, go bs)

-- a call is made through each of them
each_use : {A : Type 0} (means : A → Meaning) (answers : List A) (old new : List BerthView) → ((answer : A) (from to : PassView) → Calls (means answer) 0 (desk_of from) (desk_of to) → StaysSettled from to) → CallsEach means answers old new → UsesEach old new
each_use means [] [] [] keeps calls = tt
each_use means [] [] (n ∷ ns) keeps calls = absurd calls
each_use means [] (o ∷ os) news keeps calls = absurd calls
each_use means (a ∷ more) [] news keeps calls = absurd calls
each_use means (a ∷ more) (o ∷ os) [] keeps calls = absurd calls
each_use means (a ∷ more) (o ∷ os) (n ∷ ns) keeps calls = (use_call (means a) (keeps a) o n calls.0, each_use means more os ns keeps calls.1)

pub uses_ask : (channels : ℕ) (spec : Spec) (callback : CallbackState) (answer : Result Asked (Refused CallbackState)) (old new : List BerthView) → Asks channels spec callback answer old new → UsesEach old new
uses_ask channels spec callback (Ok asked) old new asks =
    changed_use (route_of spec channels) (CallsBerth (Accepts plan_of spec callback (Ok asked.number))) old new (use_call (Accepts plan_of spec callback (Ok asked.number)) (stays_accept spec callback (Ok asked.number))) asks.1
uses_ask channels spec callback (Err refused) old new asks =
    changed_use (route_of spec channels) (CallsBerth (Accepts plan_of spec callback (Err refused))) old new (use_call (Accepts plan_of spec callback (Err refused)) (stays_accept spec callback (Err refused))) asks

pub uses_cancels : (answers : List ℕ) (old new : List BerthView) → CallsEach Cancels answers old new → UsesEach old new
uses_cancels answers old new calls = each_use Cancels answers old new stays_cancel calls

pub uses_destroys : (answers : List Bool) (old new : List BerthView) → CallsEach Destroys answers old new → UsesEach old new
uses_destroys answers old new calls = each_use Destroys answers old new stays_destroy calls

pub uses_show : (channel : ℕ) (shown : Shown) (old new : List BerthView) → ChangesAt channel (ShowsBerth shown) old new → UsesEach old new
uses_show channel shown old new changes =
    changed_use channel (ShowsBerth shown) old new
    (λ from to shows. record {
      same = same from.pass to.pass shows.same;
      settled = subst (StaysSettled from.pass) (sym shows.same) (stays_none from.pass);
      further = shows.further;
    })
    changes
  where
    same : (from to : PassView) → to ≡ from → to ≡ record from { own = to.own; seen = to.seen }
    same from to is = subst (λ (p : PassView). to ≡ record p { own = to.own; seen = to.seen }) is refl

-- berths that were used stay
pub uses_stay : (olds news : List BerthView) → UsesEach olds news → BerthsStay olds news
uses_stay [] [] uses = tt
uses_stay [] (n ∷ ns) uses = absurd uses
uses_stay (o ∷ os) [] uses = absurd uses
uses_stay (o ∷ os) (n ∷ ns) uses = (uses.0.settled, uses_stay os ns uses.1)
