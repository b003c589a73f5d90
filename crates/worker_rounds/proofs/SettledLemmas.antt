-- Behind rounds a channel's passes are the same still, and no ticket is outside if none was before.
use Rattle.std.proofs.Common.{◌≡◌, ◌∙◌, ℕ, List, [], ◌∷◌, ◌++◌, Bool, true, false, map, flat_map, refl, ap, ap₂, sym, subst, append_assoc, inl, inr, ◌⊎◌}
use Rattle.std.proofs.lemmas.List.{append-nil, map-append}
use Rattle.std.proofs.lemmas.List.Concat.{flat_map-cons}
use Rattle.std.proofs.lemmas.List.Elements.{All-from_recursion, recursion_from_All}
use Rattle.std.proofs.lemmas.List.Sorted.{All-permutation, IsPermutation-append, IsPermutation-append_comm, IsPermutation-append_left, IsPermutation-append_right, IsPermutation-map, IsPermutation-refl, IsPermutation-sym, IsPermutation-trans}
use Rattle.std.specs.List.{AllByRecursion}
use Rattle.std.specs.List.Sorted.{IsPermutation}
use mathlib.Core.List.{IsPrefix}
use Rattle.chan_types.specs.declared.answer.Answer.{Answer}
use Rattle.chan_types.specs.declared.orders.Orders.{Orders}
use Rattle.channel_model.specs.Known.{Known}
use Rattle.channel_model.proofs.Theorems.{each-append}
use Rattle.delivery_pool.specs.Spending.{SpendsEach}
use Rattle.pooled_places.specs.Delivery.{SpendsTicket, answers_of}
use Rattle.pooled_places.specs.Standing.{AreStill}
use Rattle.pooled_places.specs.Tickets.{TicketState}
use Rattle.pooled_places.proofs.Theorems.{still_none, told_each}
use Rattle.shared_channel.specs.Passes.{PassView}
use Rattle.shared_channel.specs.Settling.{AreSettled, IsFateSeen, IsSeenByOne, taken_in, taken_through, told_through}
use Rattle.worker_rounds.specs.Course.{tickets_spent, tickets_taken}
use Rattle.worker_rounds.specs.Going.{GoesAs, IsCommanded, IsOwners}
use Rattle.worker_rounds.specs.Serving.{HasServed, IsStint, Serves, Stint}
use Rattle.worker_rounds.proofs.CourseLemmas.{ComesTo, course_comes, crossed, fates_stay}
use Rattle.worker_rounds.proofs.GoingLemmas.{number_of, spends_go, worker_takes}
use Rattle.worker_rounds.proofs.ServingLemmas.{spent_in}

abbrev olds_of : List Stint → List PassView
olds_of stints = map (λ (s : Stint). s.old) stints

abbrev news_of : List Stint → List PassView
news_of stints = map (λ (s : Stint). s.new) stints

-- an answer that a pass has seen as a fate, it sees as one later
later : (old new : PassView) → IsPrefix old.seen new.seen → new.setting ≡ old.setting → (a : Answer) → IsFateSeen old a → IsFateSeen new a
later old new p same a is = (fates_stay old new p same (a ∷ []) (is, tt)).0

module _ (orders : Orders) where
  stint_goes : (s : Stint) → IsStint orders s → GoesAs IsCommanded s.old s.new
  stint_goes s each = spends_go s.tickets (orders, s.old) (orders, s.new) each

  stints_still : (stints : List Stint) → AllByRecursion (IsStint orders) stints → AreStill (olds_of stints) (news_of stints)
  stints_still [] each = tt
  stints_still (s ∷ ss) each = ((stint_goes s each.0).same, stints_still ss each.1)

  stints_taken : (stints : List Stint) → AllByRecursion (IsStint orders) stints → taken_through (news_of stints) ≡ taken_through (olds_of stints)
  stints_taken [] each = refl
  stints_taken (s ∷ ss) each =
      flat_map-cons (λ (p : PassView). taken_in p.own) s.new (news_of ss) ∙ ap₂ (λ xs ys. xs ++ ys) (worker_takes s.old s.new (stint_goes s each.0)) (stints_taken ss each.1)
      ∙ sym (flat_map-cons (λ (p : PassView). taken_in p.own) s.old (olds_of ss))

  stints_told : (stints : List Stint) → AllByRecursion (IsStint orders) stints → IsPermutation (told_through (olds_of stints) ++ answers_of (spent_in stints)) (told_through (news_of stints))
  stints_told [] each = IsPermutation-refl []
  stints_told (s ∷ ss) each =
      let a : List Answer = answers_of s.tickets in
      let b : List Answer = answers_of (spent_in ss) in
      let left : told_through (olds_of (s ∷ ss)) ++ answers_of (spent_in (s ∷ ss)) ≡ (s.old.calls ++ told_through (olds_of ss)) ++ (a ++ b) =
      ap₂ (λ xs ys. xs ++ ys) (flat_map-cons (λ (p : PassView). p.calls) s.old (olds_of ss)) (ap answers_of (flat_map-cons (λ (t : Stint). t.tickets) s ss) ∙ map-append (λ (its : TicketState). its.ticket.call) s.tickets (spent_in ss)) in
      let right : told_through (news_of (s ∷ ss)) ≡ (s.old.calls ++ a) ++ told_through (news_of ss) =
      flat_map-cons (λ (p : PassView). p.calls) s.new (news_of ss) ∙ ap (λ l. l ++ told_through (news_of ss)) (told_each s.tickets (orders, s.old) (orders, s.new) each.0) in
      subst (λ l. IsPermutation l (told_through (news_of (s ∷ ss)))) (sym left)
      (subst (IsPermutation ((s.old.calls ++ told_through (olds_of ss)) ++ (a ++ b))) (sym right)
      (IsPermutation-trans ((s.old.calls ++ told_through (olds_of ss)) ++ (a ++ b)) ((s.old.calls ++ a) ++ (told_through (olds_of ss) ++ b)) ((s.old.calls ++ a) ++ told_through (news_of ss))
      (crossed s.old.calls (told_through (olds_of ss)) a b)
      (IsPermutation-append_right (s.old.calls ++ a) (told_through (olds_of ss) ++ b) (told_through (news_of ss)) (stints_told ss each.1))))

  stints_later : (stints : List Stint) → AllByRecursion (IsStint orders) stints → (a : Answer) → IsSeenByOne (olds_of stints) a → IsSeenByOne (news_of stints) a
  stints_later [] each a seen = seen
  stints_later (s ∷ ss) each a (inl seen) = let goes = stint_goes s each.0 in inl (later s.old s.new goes.seen (ap (λ (p : PassView). p.setting) goes.same) a seen)
  stints_later (s ∷ ss) each a (inr seen) = inr (stints_later ss each.1 a seen)

module _ {P : Type 0} (steps : P → Known → P → Known → Type 0) (ends : P → Known → Type 0) (orders : Orders) (owner : PassView) (workers : List PassView) (pump : P) (owner_new : PassView) (workers_new : List PassView) (pump_new : P) where
  module _ (served : HasServed steps ends orders owner workers pump owner_new workers_new pump_new) where
    comes : ComesTo steps served.deeds owner owner_new
    comes = course_comes steps orders served.deeds (owner, pump) (owner_new, pump_new) served.course

    -- who made what through the owner's place
    pub owner_goes : GoesAs IsOwners owner owner_new
    owner_goes = comes.goes

    still : AreStill (owner ∷ workers) (owner_new ∷ workers_new)
    still = (owner_goes.same, subst (λ l. AreStill l workers_new) served.olds (subst (AreStill (olds_of served.stints)) served.news (stints_still orders served.stints served.each)))

    abbrev old_told : List Answer
    old_told = told_through (owner ∷ olds_of served.stints)

    abbrev new_told : List Answer
    new_told = told_through (owner_new ∷ news_of served.stints)

    abbrev more : List Answer
    more = answers_of (tickets_taken served.deeds)

    all_told : IsPermutation (old_told ++ more) new_told
    all_told =
        let s : List Answer = answers_of (tickets_spent served.deeds) in
        let t : List Answer = answers_of (spent_in served.stints) in
        let o : List Answer = told_through (olds_of served.stints) in
        let n : List Answer = told_through (news_of served.stints) in
        let left : old_told ≡ owner.calls ++ o = flat_map-cons (λ (p : PassView). p.calls) owner (olds_of served.stints) in
        let right : new_told ≡ (owner.calls ++ s) ++ n = flat_map-cons (λ (p : PassView). p.calls) owner_new (news_of served.stints) ∙ ap (λ l. l ++ n) comes.calls in
        let shared : IsPermutation more (s ++ t) =
        subst (IsPermutation more) (map-append (λ (its : TicketState). its.ticket.call) (tickets_spent served.deeds) (spent_in served.stints))
        (IsPermutation-map (λ (its : TicketState). its.ticket.call) (tickets_taken served.deeds) (tickets_spent served.deeds ++ spent_in served.stints) served.once) in
        subst (λ l. IsPermutation (l ++ more) new_told) (sym left) (subst (IsPermutation ((owner.calls ++ o) ++ more)) (sym right)
        (IsPermutation-trans ((owner.calls ++ o) ++ more) ((owner.calls ++ o) ++ (s ++ t)) ((owner.calls ++ s) ++ n)
        (IsPermutation-append_right (owner.calls ++ o) more (s ++ t) shared)
        (IsPermutation-trans ((owner.calls ++ o) ++ (s ++ t)) ((owner.calls ++ s) ++ (o ++ t)) ((owner.calls ++ s) ++ n)
        (crossed owner.calls o s t)
        (IsPermutation-append_right (owner.calls ++ s) (o ++ t) n (stints_told orders served.stints served.each)))))

    all_taken : IsPermutation (taken_through (owner_new ∷ news_of served.stints)) (taken_through (owner ∷ olds_of served.stints) ++ map number_of more)
    all_taken =
        let w : List ℕ = taken_through (olds_of served.stints) in
        let own : List ℕ = taken_in owner.own in
        let n : List ℕ = map number_of more in
        let left : taken_through (owner_new ∷ news_of served.stints) ≡ own ++ (n ++ w) =
        flat_map-cons (λ (p : PassView). taken_in p.own) owner_new (news_of served.stints) ∙ ap₂ (λ xs ys. xs ++ ys) comes.taken (stints_taken orders served.stints served.each) ∙ append_assoc own n w in
        let right : taken_through (owner ∷ olds_of served.stints) ++ n ≡ own ++ (w ++ n) =
        ap (λ l. l ++ n) (flat_map-cons (λ (p : PassView). taken_in p.own) owner (olds_of served.stints)) ∙ append_assoc own w n in
        subst (λ l. IsPermutation l (taken_through (owner ∷ olds_of served.stints) ++ n)) (sym left) (subst (IsPermutation (own ++ (n ++ w))) (sym right) (IsPermutation-append_right own (n ++ w) (w ++ n) (IsPermutation-append_comm n w)))

    settled_stints : AreSettled (owner ∷ olds_of served.stints) → AreSettled (owner_new ∷ news_of served.stints)
    settled_stints was = record {
      numbers = IsPermutation-trans (taken_through (owner_new ∷ news_of served.stints)) (taken_through (owner ∷ olds_of served.stints) ++ map number_of more) (map number_of new_told) all_taken
          (IsPermutation-trans (taken_through (owner ∷ olds_of served.stints) ++ map number_of more) (map number_of old_told ++ map number_of more) (map number_of new_told)
          (IsPermutation-append_left (map number_of more) (taken_through (owner ∷ olds_of served.stints)) (map number_of old_told) was.numbers)
          (subst (λ l. IsPermutation l (map number_of new_told)) (map-append number_of old_told more) (IsPermutation-map number_of (old_told ++ more) new_told all_told)));
      fates = recursion_from_All Seen new_told (All-permutation Seen (old_told ++ more) new_told all_told (All-from_recursion Seen (old_told ++ more)
          (each-append Seen old_told more (each_later old_told was.fates) (each_new more comes.fates))));
    }
      where
        Seen : Answer → Type 0
        Seen = IsSeenByOne (owner_new ∷ news_of served.stints)

        one_later : (a : Answer) → IsSeenByOne (owner ∷ olds_of served.stints) a → Seen a
        one_later a (inl seen) = inl (later owner owner_new owner_goes.seen (ap (λ (p : PassView). p.setting) owner_goes.same) a seen)
        one_later a (inr seen) = inr (stints_later orders served.stints served.each a seen)

        each_later : (answers : List Answer) → AllByRecursion (IsSeenByOne (owner ∷ olds_of served.stints)) answers → AllByRecursion Seen answers
        each_later [] each = tt
        each_later (a ∷ bs) each = (one_later a each.0, each_later bs each.1)

        each_new : (answers : List Answer) → AllByRecursion (IsFateSeen owner_new) answers → AllByRecursion Seen answers
        each_new [] each = tt
        each_new (a ∷ bs) each = (inl each.0, each_new bs each.1)

    settled : AreSettled (owner ∷ workers) → AreSettled (owner_new ∷ workers_new)
    settled was = subst (λ l. AreSettled (owner_new ∷ l)) served.news (settled_stints (subst (λ l. AreSettled (owner ∷ l)) (sym served.olds) was))

  -- served or not
  pub serves_still : (refused : Bool) → Serves steps ends orders refused owner workers pump owner_new workers_new pump_new → AreStill (owner ∷ workers) (owner_new ∷ workers_new)
  serves_still true same = subst (λ l. AreStill (owner ∷ workers) (owner_new ∷ l)) (sym same.1) (subst (λ p. AreStill (owner ∷ workers) (p ∷ workers)) (sym same.0) (still_none (owner ∷ workers)))
  serves_still false served = still served

  pub serves_settled : (refused : Bool) → Serves steps ends orders refused owner workers pump owner_new workers_new pump_new → AreSettled (owner ∷ workers) → AreSettled (owner_new ∷ workers_new)
  serves_settled true same was = subst (λ l. AreSettled (owner_new ∷ l)) (sym same.1) (subst (λ p. AreSettled (p ∷ workers)) (sym same.0) was)
  serves_settled false served was = settled served was
