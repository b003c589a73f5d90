-- Rounds, one after the other.
use Rattle.std.proofs.Common.{◌≡◌, ◌∙◌, ⊎_elim, ℕ, suc, List, [], ◌∷◌, ◌++◌, Option, Some, None, length, map, refl, ap, sym, subst, arith, append_assoc}
use Rattle.std.proofs.lemmas.List.{append-nil}
use Rattle.std.specs.List.{AllByRecursion}
use Rattle.chan_types.specs.declared.orders.Orders.{Orders}
use Rattle.channel_model.specs.Known.{Known}
use Rattle.delivery_pool.specs.declared.message.Message.{Message}
use Rattle.delivery_pool.specs.declared.message.Message.TheVariants.{Stop, Ticket as Sent}
use Rattle.delivery_pool.specs.declared.working.Worker.{Worker}
use Rattle.delivery_pool.specs.Parts.{EachDoes}
use Rattle.delivery_pool.specs.Pools.{PoolState, messages_of, tickets_in}
use Rattle.delivery_pool.specs.Rounds.{WorkersPart}
use Rattle.delivery_pool.specs.Spending.{SpendsEach, Works}
use Rattle.pooled_places.specs.Delivery.{SpendsTicket}
use Rattle.pooled_places.specs.Tickets.{TicketState}
use Rattle.shared_channel.specs.Passes.{PassView}
use Rattle.ticket_queue.specs.Passes.{PassState, QueueState, WasFull, after_send}
use Rattle.worker_rounds.specs.Course.{Draws, MakesStep, Shares}
use Rattle.worker_rounds.specs.Crews.{AllHaveWorked, HasWorked}
use Rattle.worker_rounds.specs.Feeding.{Feeds, FeedsEach, FeedsOne}
use Rattle.worker_rounds.specs.Rounds.{HasRun}
use Rattle.worker_rounds.proofs.CourseLemmas.{shares_more, shares_none, shares_sent, shares_spent, shares_step, shares_stops, tickets_in-append, tickets_in-messages_of}

module _ {K P : Type 0} (steps : P → Known → P → Known → Type 0) (place : K → PassView) (pump : K → P) (orders : K → Orders) where
  abbrev DrawsNext : K → Option TicketState → K → Type 0
  DrawsNext old drawn new = Draws steps (place old) (pump old) drawn (place new) (pump new) × (orders new ≡ orders old)

  abbrev SpendsBack : K → TicketState → K → Type 0
  SpendsBack old its new = (pump new ≡ pump old) × SpendsTicket (orders old, place old) its (orders new, place new)

  -- the owner's part of a round
  pub record HasFed (before : K) (old : PassState (Message TicketState)) (after : K) (new : PassState (Message TicketState)) : Type 0 where
    pub orders_are : orders after ≡ orders before
    pub shares : Shares steps (orders before) (place before, pump before) old (place after, pump after) new

  fed_none : (before : K) (old : PassState (Message TicketState)) (after : K) (new : PassState (Message TicketState)) → after ≡ before → new ≡ old → HasFed before old after new
  fed_none before old after new same pass_same =
      subst (λ k. HasFed before old k new) (sym same) (subst (HasFed before old before) (sym pass_same) (record {
        orders_are = refl;
        shares = shares_none steps (orders before) (place before, pump before) old;
      }))

  fed_more : (before : K) (old : PassState (Message TicketState)) (between : K) (middle : PassState (Message TicketState)) (after : K) (new : PassState (Message TicketState)) → HasFed before old between middle → HasFed between middle after new → HasFed before old after new
  fed_more before old between middle after new first more = record {
    orders_are = more.orders_are ∙ first.orders_are;
    shares = shares_more steps (orders before) (place before, pump before) (place between, pump between) (place after, pump after) old middle new first.shares
        (subst (λ o. Shares steps o (place between, pump between) middle (place after, pump after) new) first.orders_are more.shares);
  }

  -- a ticket is drawn, and then sent or spent
  fed_one : (queue : QueueState (Message TicketState)) (its : TicketState) (before drawn after : K) (old new : PassState (Message TicketState)) → DrawsNext before (Some its) drawn → FeedsOne SpendsBack queue its drawn old after new → HasFed before old after new
  fed_one queue its before drawn after old new draw one = ⊎_elim sent kept one
    where
      sent : (new ≡ after_send old (Sent its)) × (after ≡ drawn) → HasFed before old after new
      sent is = subst (λ k. HasFed before old k new) (sym is.1) (record {
        orders_are = draw.1;
        shares = shares_sent steps (orders before) (place before) (pump before) (place drawn) (pump drawn) old new its draw.0 is.0;
      })

      kept : (new ≡ old) × WasFull queue old × SpendsBack drawn its after → HasFed before old after new
      kept is =
          let back : SpendsBack drawn its after = is.2 in
          record {
            orders_are = back.1.0 ∙ draw.1;
            shares = shares_spent steps (orders before) (place before) (pump before) (place drawn) (pump drawn) old new its (orders drawn) (orders after) (place after) (pump after) draw.0 draw.1 is.0 back.1 back.0;
          }

  fed_each : (queue : QueueState (Message TicketState)) (tickets : List TicketState) (before after : K) (old new : PassState (Message TicketState)) → FeedsEach DrawsNext SpendsBack queue tickets before old after new → HasFed before old after new
  fed_each queue [] before after old new same = fed_none before old after new same.0 same.1
  fed_each queue (t ∷ ts) before after old new each =
      fed_more before old each.1 each.2 after new (fed_one queue t before each.0 each.1 old each.2 each.3 each.4) (fed_each queue ts each.1 after each.2 new each.5)

  -- and all of it
  pub has_fed : (pool : PoolState TicketState) (before after : K) (old new : PassState (Message TicketState)) → Feeds DrawsNext SpendsBack pool before old after new → HasFed before old after new
  has_fed pool before after old new feeds =
      fed_more before old feeds.last feeds.middle after new (fed_each pool.queue feeds.tickets before feeds.last old feeds.middle feeds.each) (record {
        orders_are = feeds.none.1;
        shares = shares_stops steps (orders feeds.last) (place feeds.last) (pump feeds.last) (place after) (pump after) feeds.middle new pool.workers feeds.none.0 feeds.stops;
      })

-- tickets that are spent behind others
pub spends_more : {T S : Type 0} (spends : S → T → S → Type 0) (first more : List T) (old middle new : S) → SpendsEach spends old first middle → SpendsEach spends middle more new → SpendsEach spends old (first ++ more) new
spends_more spends [] more old middle new same each = subst (λ s. SpendsEach spends s more new) same each
spends_more spends (t ∷ ts) more old middle new first each = (first.0, first.1, spends_more spends ts more first.0 middle new first.2 each)

module _ {S : Type 0} (place : S → PassView) (orders : S → Orders) where
  abbrev Working : Worker TicketState S → Worker TicketState S → Type 0
  Working = WorkersPart SpendsTicket (λ s. (orders s, place s))

  abbrev Crew : Type 0
  Crew = List (Worker TicketState S)

  -- a worker's part of a round
  worked_one : (old new : Worker TicketState S) → Working old new → HasWorked place orders old new
  worked_one old new works = record {
    tickets = works.tickets;
    spent = works.spent;
    got = ap (λ (p : PassState (Message TicketState)). tickets_in p.got) works.received ∙ tickets_in-append old.pass.got (messages_of works.tickets ++ Stop ∷ [])
        ∙ ap (λ l. tickets_in old.pass.got ++ l) (tickets_in-append (messages_of works.tickets) (Stop ∷ []) ∙ append-nil (tickets_in (messages_of works.tickets)) ∙ tickets_in-messages_of works.tickets);
    pass_is = works.received ∙ (λ i. record old.pass { got = sym (ap (λ (p : PassState (Message TicketState)). p.got) works.received) i });
  }

  worked_more : (old middle new : Worker TicketState S) → HasWorked place orders old middle → HasWorked place orders middle new → HasWorked place orders old new
  worked_more old middle new first more = record {
    tickets = first.tickets ++ more.tickets;
    spent = spends_more SpendsTicket first.tickets more.tickets (orders old.spender, place old.spender) (orders middle.spender, place middle.spender) (orders new.spender, place new.spender) first.spent more.spent;
    got = more.got ∙ ap (λ l. l ++ more.tickets) first.got ∙ append_assoc (tickets_in old.pass.got) first.tickets more.tickets;
    pass_is = more.pass_is ∙ ap (λ (p : PassState (Message TicketState)). record p { got = new.pass.got }) first.pass_is;
  }

  all_none : (crew : Crew) → AllHaveWorked place orders crew crew
  all_none [] = tt
  all_none (w ∷ ws) = (record { tickets = []; spent = refl; got = sym (append-nil (tickets_in w.pass.got)); pass_is = refl }, all_none ws)

  all_more : (olds middles news : Crew) → AllHaveWorked place orders olds middles → EachDoes Working middles news → AllHaveWorked place orders olds news
  all_more [] [] [] first each = tt
  all_more [] [] (n ∷ ns) first each = absurd (omega (arith, each.0))
  all_more [] (m ∷ ms) news first each = absurd first
  all_more (o ∷ os) [] news first each = absurd first
  all_more (o ∷ os) (m ∷ ms) [] first each = absurd (omega (arith, each.0))
  all_more (o ∷ os) (m ∷ ms) (n ∷ ns) first each =
      (worked_more o m n first.0 (worked_one m n (each.1 0 m (omega arith))), all_more os ms ns first.1 (omega (arith, each.0), λ k d lt. each.1 (suc k) d (omega (arith, lt))))

  module _ {P : Type 0} (steps : P → Known → P → Known → Type 0) (given : Orders) where
    pub run_none : (owner : PassView × P) (right : PassState (Message TicketState)) (crew : Crew) → HasRun steps place orders given owner right crew owner right crew
    run_none owner right crew = record {
      shares = shares_none steps given owner right;
      works = all_none crew;
    }

    -- a round more, behind which it is asked whether all is done
    pub run_more : {K : Type 0} (of : K → PassView) (to : K → P) (by : K → Orders) (before after : K) (owner0 seeing : PassView × P) (right0 right new : PassState (Message TicketState)) (crew0 crew news : Crew)
        → by before ≡ given → HasRun steps place orders given owner0 right0 crew0 (of before, to before) right crew → HasFed steps of to by before right after new → EachDoes Working crew news → MakesStep steps (of after, to after) seeing
        → HasRun steps place orders given owner0 right0 crew0 seeing new news
    run_more of to by before after owner0 seeing right0 right new crew0 crew news same so_far fed each step =
        let round : Shares steps given (of before, to before) right (of after, to after) new = subst (λ o. Shares steps o (of before, to before) right (of after, to after) new) same fed.shares in
        record {
          shares = shares_more steps given owner0 (of before, to before) seeing right0 right new so_far.shares
              (shares_more steps given (of before, to before) (of after, to after) seeing right new new round (shares_step steps given (of after, to after) seeing new step));
          works = all_more crew0 crew news so_far.works each;
        }
