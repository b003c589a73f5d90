-- Tickets that are offered one after the other.
use Rattle.std.proofs.Common.{◌≡◌, ◌∙◌, List, [], ◌∷◌, ◌++◌, refl, ap, sym, subst, append_assoc}
use Rattle.std.proofs.lemmas.List.{append-nil}
use Rattle.ticket_queue.specs.Passes.{PassState, QueueState}
use Rattle.delivery_pool.specs.declared.message.Message.{Message}
use Rattle.delivery_pool.specs.Pools.{PoolState, after_stops}
use Rattle.delivery_pool.specs.Spending.{OffersAll, OffersEach, OffersOne}

module _ {T S : Type 0} (spends : S → T → S → Type 0) where
  -- a ticket more was offered
  offers_more : (queue : QueueState (Message T)) (tickets : List T) (ticket : T) (old middle new : PassState (Message T)) (before between after : S) → OffersEach spends queue tickets old before middle between → OffersOne spends queue ticket middle between new after
      → OffersEach spends queue (tickets ++ ticket ∷ []) old before new after
  offers_more queue [] ticket old middle new before between after each one =
      (new, after, subst (λ (x : PassState (Message T) × S). OffersOne spends queue ticket x.0 x.1 new after) (λ i. (each.0 i, each.1 i)) one, (refl, refl))
  offers_more queue (x ∷ xs) ticket old middle new before between after each one = (each.0, each.1, each.2, offers_more queue xs ticket each.0 middle new each.1 between after each.3 one)

  -- of these tickets, those before the ones that are left were offered
  pub record HasOffered (queue : QueueState (Message T)) (tickets left : List T) (old : PassState (Message T)) (before : S) (new : PassState (Message T)) (after : S) : Type 0 where
    pub taken : List T
    pub parts : tickets ≡ taken ++ left
    pub each : OffersEach spends queue taken old before new after

  pub offered_none : (queue : QueueState (Message T)) (tickets : List T) (old : PassState (Message T)) (before : S) → HasOffered queue tickets tickets old before old before
  offered_none queue tickets old before = record { taken = []; parts = refl; each = (refl, refl) }

  pub offered_more : (queue : QueueState (Message T)) (tickets left rest : List T) (ticket : T) (old middle new : PassState (Message T)) (before between after : S) → left ≡ ticket ∷ rest → HasOffered queue tickets left old before middle between
      → OffersOne spends queue ticket middle between new after → HasOffered queue tickets rest old before new after
  offered_more queue tickets left rest ticket old middle new before between after is so_far one = record {
    taken = so_far.taken ++ ticket ∷ [];
    parts = so_far.parts ∙ ap (λ l. so_far.taken ++ l) is ∙ sym (append_assoc so_far.taken (ticket ∷ []) rest);
    each = offers_more queue so_far.taken ticket old middle new before between after so_far.each one;
  }

  pub offered_all : (pool : PoolState T) (tickets left : List T) (old middle new : PassState (Message T)) (before after : S) → left ≡ [] → HasOffered pool.queue tickets left old before middle after → new ≡ after_stops pool.workers middle
      → OffersAll spends pool tickets old before new after
  offered_all pool tickets left old middle new before after none so_far stops = record {
    middle = middle;
    each = subst (λ l. OffersEach spends pool.queue l old before middle after) (sym (so_far.parts ∙ ap (λ l. so_far.taken ++ l) none ∙ append-nil so_far.taken)) so_far.each;
    stops = stops;
  }
