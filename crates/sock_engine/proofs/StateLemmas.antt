-- What a receive of the network tells of the World's state.
use Rattle.std.proofs.Common.{◌≡◌, ◌≢◌, ◌≤◌, ℕ, List, [], Result, Ok, Err, IfOk, OnErr, refl}
use Rattle.net_world.specs.declared.answers.Got.{Got}
use Rattle.sock_engine.specs.Inbox.{GivesFirst}
use Rattle.sock_engine.specs.State.{SockState, GivesNext, Keeps}

module _ (state : SockState) (came : List Got) (moment : ℕ) (later : state.moment ≤ moment) (holds : state.came ≢ [] → moment ≡ state.moment) where
  -- what the network gave first is what the World gives
  pub next_given : {E : Type 0} (result : Result Got E) → IfOk result (GivesFirst state.came came) → IfOk result (GivesNext state (record state { came = came; moment = moment }))
  next_given (Ok got) first = record { state = refl; first = first; clock = record { later = later; holds = holds } }
  next_given (Err error) first = first

  -- for want of memory nothing of what had come is lost
  pub state_kept : {E : Type 0} (result : Result Got E) → OnErr result (state.came ≢ [] → came ≡ state.came) → OnErr result (Keeps state (record state { came = came; moment = moment }))
  state_kept (Ok got) is = is
  state_kept (Err error) is = record { state = refl; came = is; clock = record { later = later; holds = holds } }
