-- What rounds do: the owner's part beside the workers'.
use Rattle.std.specs.Prelude.{List}
use Rattle.chan_types.specs.declared.orders.Orders.{Orders}
use Rattle.channel_model.specs.Known.{Known}
use Rattle.delivery_pool.specs.declared.message.Message.{Message}
use Rattle.delivery_pool.specs.declared.working.Worker.{Worker}
use Rattle.pooled_places.specs.Tickets.{TicketState}
use Rattle.shared_channel.specs.Passes.{PassView, desk_of}
use Rattle.ticket_queue.specs.Passes.{PassState}
use Rattle.worker_rounds.specs.Course.{Shares}
use Rattle.worker_rounds.specs.Crews.{AllHaveWorked}

module _ {P S : Type 0} (steps : P → Known → P → Known → Type 0) (place : S → PassView) (orders : S → Orders) (given : Orders) where
  -- so far these rounds went: of the owner's place and its pump, of its pass of the pool, and of the workers
  pub record HasRun (owner_old : PassView × P) (right_old : PassState (Message TicketState)) (crew_old : List (Worker TicketState S)) (owner_new : PassView × P) (right_new : PassState (Message TicketState)) (crew_new : List (Worker TicketState S)) : Type 0 where
    -- what the owner did, and which of the tickets that it took it sent
    pub shares : Shares steps given owner_old right_old owner_new right_new
    -- what each worker spent
    pub works : AllHaveWorked place orders crew_old crew_new

  -- and behind them all was done
  pub record RunsRounds (ends : P → Known → Type 0) (owner_old : PassView × P) (right_old : PassState (Message TicketState)) (crew_old : List (Worker TicketState S)) (owner_new : PassView × P) (right_new : PassState (Message TicketState)) (crew_new : List (Worker TicketState S)) : Type 0 where
    pub ran : HasRun owner_old right_old crew_old owner_new right_new crew_new
    pub ended : ends owner_new.1 (desk_of owner_new.0)
