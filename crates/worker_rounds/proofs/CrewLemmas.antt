-- Workers that are made of passes, and taken apart into them again.
use Rattle.std.proofs.Common.{◌≡◌, ◌∙◌, ◌<◌, ℕ, ◌+◌, List, [], ◌∷◌, ◌++◌, length, map, refl, ap, ap₂, sym, subst, arith, append_assoc}
use Rattle.std.proofs.lemmas.List.{append-nil, map-append}
use Rattle.std.specs.List.{AllByRecursion}
use Rattle.std.specs.Prelude.{remove, slice_index_or}
use Rattle.chan_types.specs.declared.orders.Orders.{Orders}
use Rattle.delivery_pool.specs.Pools.{PoolState}
use Rattle.delivery_pool.specs.declared.message.Message.{Message}
use Rattle.delivery_pool.specs.declared.working.Worker.{Worker}
use Rattle.pooled_places.specs.Tickets.{TicketState}
use Rattle.shared_channel.specs.Passes.{PassView}
use Rattle.ticket_queue.specs.Passes.{PassState, QueueState, new_pass}
use Rattle.worker_rounds.specs.Crews.{AreNewRights, AreNewWorkers, places_of}

-- the first item of a list, apart from the others
pub front : {X : Type 0} (xs : List X) (x : X) (rest : List X) → 0 < length xs → x ≡ slice_index_or xs 0 x → rest ≡ remove xs 0 → xs ≡ x ∷ rest
front [] x rest some is rest_is = absurd (omega (arith, some))
front (y ∷ ys) x rest some is rest_is = ap₂ (λ h t. h ∷ t) (sym is) (sym rest_is)

pub push_each : {X : Type 0} (P : X → Type 0) (xs : List X) (x : X) → AllByRecursion P xs → P x → AllByRecursion P (xs ++ x ∷ [])
push_each P [] x each one = (one, tt)
push_each P (y ∷ ys) x each one = (each.0, push_each P ys x each.1 one)

pop_each : {X : Type 0} (P : X → Type 0) (xs : List X) (x : X) → AllByRecursion P (xs ++ x ∷ []) → AllByRecursion P xs × P x
pop_each P [] x each = (tt, each.0)
pop_each P (y ∷ ys) x each = let rest = pop_each P ys x each.1 in ((each.0, rest.0), rest.1)

module _ {S : Type 0} (place : S → PassView) (orders : S → Orders) (pool : PoolState TicketState) (given : Orders) where
  -- so far the first of these passes are in workers
  pub record IsHiring (passes left : List PassView) (rights : List (PassState (Message TicketState))) (crew : List (Worker TicketState S)) : Type 0 where
    pub places : places_of place crew ++ left ≡ passes
    pub fresh : AreNewWorkers orders pool given crew
    pub rights_are : AreNewRights pool.queue rights

  pub hiring_none : (passes : List PassView) (rights : List (PassState (Message TicketState))) (crew : List (Worker TicketState S)) → crew ≡ [] → AreNewRights pool.queue rights → IsHiring passes passes rights crew
  hiring_none passes rights crew none are = record { places = ap (λ l. places_of place l ++ passes) none; fresh = subst (AreNewWorkers orders pool given) (sym none) tt; rights_are = are }

  pub hiring_right : (passes left : List PassView) (rights fewer : List (PassState (Message TicketState))) (right : PassState (Message TicketState)) (crew : List (Worker TicketState S)) → IsHiring passes left rights crew → rights ≡ fewer ++ right ∷ [] → AreNewRights pool.queue fewer × (right ≡ new_pass pool.queue 1)
  hiring_right passes left rights fewer right crew so_far is = pop_each (λ r. r ≡ new_pass pool.queue 1) fewer right (subst (AreNewRights pool.queue) is so_far.rights_are)

  pub hiring_more : (passes left rest : List PassView) (pass : PassView) (rights fewer : List (PassState (Message TicketState))) (right : PassState (Message TicketState)) (crew more : List (Worker TicketState S)) (worker : Worker TicketState S) → IsHiring passes left rights crew
      → left ≡ pass ∷ rest → rights ≡ fewer ++ right ∷ [] → more ≡ crew ++ worker ∷ [] → place worker.spender ≡ pass → worker.pass ≡ right → worker.pool.now ≡ pool → orders worker.spender ≡ given → IsHiring passes rest fewer more
  hiring_more passes left rest pass rights fewer right crew more worker so_far front_is back_is more_is placed righted pooled ordered =
      let taken = hiring_right passes left rights fewer right crew so_far back_is in
      record {
        places = ap (λ l. places_of place l ++ rest) more_is ∙ ap (λ l. l ++ rest) (map-append (λ (w : Worker TicketState S). place w.spender) crew (worker ∷ []))
            ∙ append_assoc (places_of place crew) (place worker.spender ∷ []) rest ∙ ap (λ p. places_of place crew ++ p ∷ rest) placed ∙ ap (λ l. places_of place crew ++ l) (sym front_is) ∙ so_far.places;
        fresh = subst (AreNewWorkers orders pool given) (sym more_is) (push_each (λ (w : Worker TicketState S). (w.pool.now ≡ pool) × (w.pass ≡ new_pass pool.queue 1) × (orders w.spender ≡ given)) crew worker so_far.fresh (pooled, righted ∙ taken.1, ordered));
        rights_are = taken.0;
      }

-- so far the first of these workers were taken apart
module _ {S X : Type 0} (part : Worker TicketState S → X) where
  pub record IsDismissing (crew left : List (Worker TicketState S)) (before now : List X) : Type 0 where
    pub parts : now ++ map part left ≡ before ++ map part crew

  pub dismissing_more : (crew left rest : List (Worker TicketState S)) (worker : Worker TicketState S) (before now more : List X) → IsDismissing crew left before now → left ≡ worker ∷ rest → more ≡ now ++ part worker ∷ [] → IsDismissing crew rest before more
  dismissing_more crew left rest worker before now more so_far front_is more_is = record {
    parts = ap (λ l. l ++ map part rest) more_is ∙ append_assoc now (part worker ∷ []) (map part rest) ∙ ap (λ l. now ++ map part l) (sym front_is) ∙ so_far.parts;
  }

  pub dismissed : (crew left : List (Worker TicketState S)) (before now : List X) → IsDismissing crew left before now → left ≡ [] → now ≡ before ++ map part crew
  dismissed crew left before now so_far none = sym (append-nil now) ∙ ap (λ l. now ++ map part l) (sym none) ∙ so_far.parts
