-- What obeyed orders say where one request was taken: a seat performed the commands of its callback, and so many requests were lost.
use Rattle.std.proofs.Common.{◌≡◌, ℕ, ◌+◌, List, [], ◌∷◌, map, subst, arith}
use Rattle.std.specs.Prelude.{count_by, sum_by}
use Rattle.std.proofs.lemmas.List.Sums.{sum_by-cons}
use Rattle.chan_types.specs.declared.journal.Entry.{Entry}
use Rattle.chan_types.specs.declared.orders.Orders.{Orders}
use Rattle.channel_model.specs.Commands.{ArePerformed, IsPerformed, ObeysOrders, Outcome, Performance, is_lost}
use Rattle.channel_model.specs.Completion.{taken}
use Rattle.channel_model.specs.Journal.{past_of}
use Rattle.channel_model.specs.Setting.{Setting}

module _ (setting : Setting) (journal : List Entry) (seats : ℕ) (orders : Orders) (last : ℕ) where
  -- how the commands of a request's callback were performed, by which so many requests were lost
  pub record WasPerformed (request count : ℕ) : Type 0 where
    pub seat : ℕ
    pub outcomes : List Outcome
    pub performed : IsPerformed setting journal seats orders last (record { request = request; seat = seat; outcomes = outcomes })
    pub lost_are : count ≡ count_by is_lost outcomes

  -- the performances are that of the only request
  only_one : (request count : ℕ) (ps : List Performance) → map (λ p. p.request) ps ≡ request ∷ [] → ArePerformed setting journal seats orders last ps →
      count ≡ sum_by (λ p. count_by is_lost p.outcomes) ps → WasPerformed request count
  only_one request count [] requests performed lost = absurd (cc requests)
  only_one request count (p ∷ q ∷ ps) requests performed lost = absurd (cc requests)
  only_one request count (p ∷ []) requests performed lost =
      let is : p.request ≡ request = cc requests in
      let sum : sum_by (λ q. count_by is_lost q.outcomes) (p ∷ []) ≡ count_by is_lost p.outcomes + 0 = sum_by-cons (λ q. count_by is_lost q.outcomes) p [] in
      record {
        seat = p.seat;
        outcomes = p.outcomes;
        performed = subst (λ n. IsPerformed setting journal seats orders last (record { request = n; seat = p.seat; outcomes = p.outcomes })) is performed.0;
        lost_are = omega (arith, lost, sum);
      }

  -- the request that was taken
  pub of_the_taken : (request count : ℕ) → taken (past_of journal) ≡ request ∷ [] →
      ObeysOrders setting journal seats orders last count → WasPerformed request count
  of_the_taken request count one obeys =
      only_one request count obeys.performances (subst (λ l. map (λ p. p.request) obeys.performances ≡ l) one obeys.requests_are) obeys.performed obeys.lost_are
