-- A channel that is destroyed through a pass, and whose ready requests are then delivered, has nothing left, and told an answer for each callback that was called.
use Rattle.std.proofs.Common.{◌≡◌, ◌∙◌, ℕ, Bool, true, false, List, [], ◌∷◌, ◌++◌, Some, None, map, refl, ap, ap₂, sym, subst, append_assoc}
use Rattle.std.proofs.lemmas.List.{append-nil}
use Rattle.std.specs.Prelude.{not}
use mathlib.Core.List.{IsPrefix}
use Rattle.chan_types.specs.declared.answer.Answer.{Answer}
use Rattle.chan_types.specs.declared.journal.What.TheVariants.{Destroy}
use Rattle.chan_types.specs.declared.orders.Orders.{Orders}
use Rattle.chan_types.specs.declared.ticket.Ticket.{Ticket}
use Rattle.channel_model.specs.Completion.{pending, ready}
use Rattle.channel_model.specs.Journal.{is_destroyed, past_of}
use Rattle.channel_model.specs.Known.{Calls}
use Rattle.channel_model.specs.Lawful.{IsLawful}
use Rattle.channel_model.specs.Meanings.{Destroys, Meaning, Takes}
use Rattle.channel_model.specs.Seen.{entries_of}
use Rattle.channel_model.proofs.Theorems.{past_of-prefix, past_of-push}
use Rattle.completion_ticket.specs.States.{CallbackState, CalledState}
use Rattle.shared_channel.specs.Finishing.{DeliversSome, EmptiesChannel, LeavesNothing, TellsBehind}
use Rattle.shared_channel.specs.Passes.{PassView, desk_of}
use Rattle.shared_channel.specs.Settling.{told_through}
use Rattle.shared_channel.specs.Spending.{Spends}
use Rattle.shared_channel.specs.Under.{plan_of}
use Rattle.ticket_delivery.proofs.Theorems.{destroyed_later, destroyed_pending}
use Rattle.shared_channel.proofs.GoingLemmas.{WentOn, went_all, went_deliveries, went_destroy, went_on}
use Rattle.shared_channel.proofs.PassLemmas.{rest_of}

-- a call tells no answer
none_told : (meaning : Meaning) (by : ℕ) (old new : PassView) → Calls meaning by (desk_of old) (desk_of new) → new.calls ≡ old.calls
none_told meaning by old new call = ap (λ p. p.calls) (rest_of old new call.desk)

-- between two moments a pass told an answer for each of these callbacks
record ToldEach (calleds : List CalledState) (old new : PassView) : Type 0 where
  told : List Answer
  parts : new.calls ≡ old.calls ++ told
  numbers : map (λ (a : Answer). a.number) told ≡ map (λ (c : CalledState). c.number) calleds

told_each : (orders : Orders) (calleds : List CalledState) (old new : PassView) → DeliversSome orders old calleds new → ToldEach calleds old new
told_each orders [] old new same = record { told = []; parts = ap (λ p. p.calls) same ∙ sym (append-nil old.calls); numbers = refl }
told_each orders (c ∷ cs) old new some =
    let ticket : Ticket CallbackState = some.1.0 in
    let taken : PassView = some.1.1 in
    let spends : Spends orders ticket taken c some.0 = some.1.3 in
    let rest : ToldEach cs some.0 new = told_each orders cs some.0 new some.2 in
    let first : some.0.calls ≡ old.calls ++ ticket.call ∷ [] = spends.calls ∙ ap (λ l. l ++ ticket.call ∷ []) (none_told (Takes plan_of (Some ticket)) 0 old taken some.1.2) in
    record {
      told = ticket.call ∷ rest.told;
      parts = rest.parts ∙ ap (λ l. l ++ rest.told) first ∙ append_assoc old.calls (ticket.call ∷ []) rest.told;
      numbers = ap₂ (λ n ns. n ∷ ns) (sym (ap (λ k. k.number) spends.is_called)) rest.numbers;
    }

module _ (orders : Orders) (all last : PassView) (emptied : EmptiesChannel orders all last) where
  pub went : WentOn all last
  went = went_on all emptied.destroyed last (went_destroy emptied.is_first all emptied.destroyed emptied.destroys) (went_all orders emptied.destroyed last emptied.delivered)

  -- an answer was told for each callback that was called
  pub tells_behind : (passes : List PassView) → all.calls ≡ told_through passes → TellsBehind passes emptied.delivered.called last.calls
  tells_behind passes before =
      let done = emptied.delivered in
      let each : ToldEach done.called emptied.destroyed done.middle = told_each orders done.called emptied.destroyed done.middle done.some in
      record {
        told = each.told;
        parts = none_told (Takes plan_of None) 0 done.middle last done.none ∙ each.parts ∙ ap (λ l. l ++ each.told) (none_told (Destroys emptied.is_first) 0 all emptied.destroyed emptied.destroys ∙ before);
        numbers = each.numbers;
      }

  -- nothing is pending or ready
  lawful : IsLawful all.setting last.seen
  lawful = subst (λ s. IsLawful s last.seen) (ap (λ p. p.setting) went.rest) emptied.delivered.none.lawful

  denied : (b : Bool) → false ≡ not b → b ≡ true
  denied true e = refl
  denied false e = absurd (cc e)

  is_over : (b : Bool) → Calls (Destroys b) 0 (desk_of all) (desk_of emptied.destroyed) → is_destroyed (past_of emptied.destroyed.seen) ≡ true
  is_over true call = ap (λ l. is_destroyed (past_of l)) (call.seen ∙ ap (λ a. call.here ++ entries_of all.number 0 a) call.meant.entry)
      ∙ ap is_destroyed (past_of-push call.here (record { seat = all.number; by = 0; what = Destroy })) ∙ refl
  is_over false call = ap (λ l. is_destroyed (past_of l)) (call.seen ∙ ap (λ a. call.here ++ entries_of all.number 0 a) call.meant.entry ∙ append-nil call.here) ∙ denied (is_destroyed (past_of call.here)) call.meant.answer

  none_pending : pending all.setting (past_of last.seen) ≡ []
  none_pending =
      let more = went_all orders emptied.destroyed last emptied.delivered in
      let p : IsPrefix emptied.destroyed.seen last.seen = (more.since, sym more.seen) in
      destroyed_pending all.setting (past_of last.seen) lawful.allowed
      (ap is_destroyed (past_of-prefix emptied.destroyed.seen last.seen p) ∙ destroyed_later (past_of emptied.destroyed.seen) p.0 (is_over emptied.is_first emptied.destroys))

  none_ready : ready all.setting (past_of last.seen) ≡ []
  none_ready =
      let done = emptied.delivered in
      let none = done.none in
      let same : done.middle.setting ≡ all.setting = ap (λ p. p.setting) (went_deliveries orders done.called emptied.destroyed done.middle done.some).rest ∙ ap (λ p. p.setting) (went_destroy emptied.is_first all emptied.destroyed emptied.destroys).rest in
      let seen : last.seen ≡ none.here = none.seen ∙ ap (λ a. none.here ++ entries_of done.middle.number 0 a) none.meant.0 ∙ append-nil none.here in
      ap (λ l. ready all.setting (past_of l)) seen ∙ subst (λ s. ready s (past_of none.here) ≡ []) same none.meant.1

  pub leaves_nothing : LeavesNothing all.setting last.seen
  leaves_nothing = record { lawful = lawful; none_pending = none_pending; none_ready = none_ready }
