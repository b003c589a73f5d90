-- Tickets that are spent one after the other.
use Rattle.std.proofs.Common.{◌≡◌, ◌∙◌, ℕ, ◌+◌, ◌-◌, ◌^◌, List, [], ◌∷◌, ◌++◌, min, refl, ap, sym, subst, arith, append_assoc}
use Rattle.std.proofs.lemmas.List.{append-nil, length_push, map-append}
use Rattle.std.specs.List.Sorted.{IsPermutation}
use Rattle.ticket_queue.specs.Passes.{PassState, after_receive}
use Rattle.delivery_pool.specs.declared.message.Message.{Message}
use Rattle.delivery_pool.specs.declared.message.Message.TheVariants.{Stop, Ticket}
use Rattle.delivery_pool.specs.Pools.{IsJoined, messages_of, tickets_in}
use Rattle.delivery_pool.specs.Spending.{Drains, IsCount, SpendsEach, SpendsMessage, SpendsRest, SpendsTicket, Works}
use Rattle.delivery_pool.proofs.TicketLemmas.{tickets_in-append, tickets_in-flat_map, tickets_in-permutation}

module _ {T : Type 0} where
  -- a message more was received
  got_more : (old middle new : PassState (Message T)) (got : List (Message T)) (message : Message T) → middle ≡ record old { got = old.got ++ got } → new ≡ after_receive middle message → new ≡ record old { got = old.got ++ (got ++ message ∷ []) }
  got_more old middle new got message so_far received =
      received ∙ ap (λ (p : PassState (Message T)). after_receive p message) so_far ∙ (λ i. record old { got = append_assoc old.got got (message ∷ []) i })

  -- nothing was received yet
  got_none : (old : PassState (Message T)) → old ≡ record old { got = old.got ++ [] }
  got_none old = λ i. record old { got = sym (append-nil old.got) i }

  -- a ticket more is counted
  count_more : (count next : ℕ) (tickets : List T) (ticket : T) → IsCount count tickets → next ≡ min (count + 1) (2 ^ 64 - 1) → IsCount next (tickets ++ ticket ∷ [])
  count_more count next tickets ticket counted next_is = next_is ∙ ap (λ n. min (n + 1) (2 ^ 64 - 1)) counted ∙ grind (arith, length_push tickets ticket)

module _ {T S : Type 0} (spends : S → T → S → Type 0) where
  -- a ticket more was spent
  pub spends_more : (tickets : List T) (ticket : T) (old middle new : S) → SpendsEach spends old tickets middle → spends middle ticket new → SpendsEach spends old (tickets ++ ticket ∷ []) new
  spends_more [] ticket old middle new each more = (new, subst (λ s. spends s ticket new) each more, refl)
  spends_more (x ∷ xs) ticket old middle new each more = (each.0, each.1, spends_more xs ticket each.0 middle new each.2 more)

  -- so far these tickets were received and spent
  pub record HasWorked (count : ℕ) (old : PassState (Message T)) (before : S) (new : PassState (Message T)) (after : S) : Type 0 where
    pub tickets : List T
    pub received : new ≡ record old { got = old.got ++ messages_of tickets }
    pub spent : SpendsEach spends before tickets after
    pub counted : IsCount count tickets

  pub works_none : (old : PassState (Message T)) (before : S) → HasWorked 0 old before old before
  works_none old before = record { tickets = []; received = got_none old; spent = refl; counted = refl }

  pub works_more : (count next : ℕ) (ticket : T) (old middle new : PassState (Message T)) (before between after : S) → HasWorked count old before middle between → new ≡ after_receive middle (Ticket ticket)
      → SpendsTicket spends ticket count next between after → HasWorked next old before new after
  works_more count next ticket old middle new before between after so_far received spent = record {
    tickets = so_far.tickets ++ ticket ∷ [];
    received = got_more old middle new (messages_of so_far.tickets) (Ticket ticket) so_far.received received ∙ (λ i. record old { got = old.got ++ sym (map-append (λ t. Ticket t) so_far.tickets (ticket ∷ [])) i });
    spent = spends_more so_far.tickets ticket before between after so_far.spent spent.1;
    counted = count_more count next so_far.tickets ticket so_far.counted spent.0;
  }

  -- and then a stop came
  pub works_stop : (count : ℕ) (old middle new : PassState (Message T)) (before after : S) → HasWorked count old before middle after → new ≡ after_receive middle Stop → Works spends count old before new after
  works_stop count old middle new before after so_far received = record {
    tickets = so_far.tickets;
    received = got_more old middle new (messages_of so_far.tickets) Stop so_far.received received;
    spent = so_far.spent;
    counted = so_far.counted;
  }

  -- so far these messages were left, and their tickets were spent
  pub record HasSpentRest (count : ℕ) (old : PassState (Message T)) (before : S) (new : PassState (Message T)) (after : S) : Type 0 where
    pub messages : List (Message T)
    pub received : new ≡ record old { got = old.got ++ messages }
    pub spent : SpendsEach spends before (tickets_in messages) after
    pub counted : IsCount count (tickets_in messages)

  pub rest_none : (old : PassState (Message T)) (before : S) → HasSpentRest 0 old before old before
  rest_none old before = record { messages = []; received = got_none old; spent = refl; counted = refl }

  pub rest_more : (message : Message T) (count next : ℕ) (old middle new : PassState (Message T)) (before between after : S) → HasSpentRest count old before middle between → new ≡ after_receive middle message
      → SpendsMessage spends message count next between after → HasSpentRest next old before new after
  rest_more message count next old middle new before between after so_far received spent =
      let more = subst (λ l. SpendsEach spends before l after × IsCount next l) (sym (tickets_in-append so_far.messages (message ∷ []))) (more_of message spent) in
      record { messages = so_far.messages ++ message ∷ []; received = got_more old middle new so_far.messages message so_far.received received; spent = more.0; counted = more.1 }
    where
      more_of : (m : Message T) → SpendsMessage spends m count next between after → SpendsEach spends before (tickets_in so_far.messages ++ tickets_in (m ∷ [])) after × IsCount next (tickets_in so_far.messages ++ tickets_in (m ∷ []))
      more_of Stop is =
          subst (λ l. SpendsEach spends before l after × IsCount next l) (sym (append-nil (tickets_in so_far.messages)))
          (subst (λ s. SpendsEach spends before (tickets_in so_far.messages) s) (sym is.1) so_far.spent, is.0 ∙ so_far.counted)
      more_of (Ticket ticket) is = (spends_more (tickets_in so_far.messages) ticket before between after so_far.spent is.1, count_more count next (tickets_in so_far.messages) ticket so_far.counted is.0)

  -- nothing is left
  pub rest_ends : (count : ℕ) (old middle : PassState (Message T)) (before after : S) → HasSpentRest count old before middle after → IsPermutation middle.sent middle.got → SpendsRest spends old count before after
  rest_ends count old middle before after so_far empty = record {
    tickets = tickets_in so_far.messages;
    spent = so_far.spent;
    all = subst (IsPermutation (tickets_in old.sent)) (tickets_in-append old.got so_far.messages)
        (tickets_in-permutation old.sent (old.got ++ so_far.messages) (subst (λ (p : PassState (Message T)). IsPermutation p.sent p.got) so_far.received empty));
    counted = so_far.counted;
  }

  -- what the joined pass had left, all passes had left
  pub drains : (passes : List (PassState (Message T))) (all : PassState (Message T)) (count : ℕ) (before after : S) → IsJoined passes all → SpendsRest spends all count before after → Drains spends passes count before after
  drains passes all count before after joined rest = record {
    tickets = rest.tickets;
    spent = rest.spent;
    all = subst (λ (l : List T × List T). IsPermutation l.0 (l.1 ++ rest.tickets))
        (λ i. ((ap tickets_in joined.sent ∙ tickets_in-flat_map (λ pass. pass.sent) passes) i, (ap tickets_in joined.got ∙ tickets_in-flat_map (λ pass. pass.got) passes) i))
        rest.all;
    counted = rest.counted;
  }
