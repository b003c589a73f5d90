-- What is seen through a pass by a look at its channel.
use Rattle.std.specs.Prelude.{Bool, IsTrue, List, [], ◌∷◌, ◌≡◌, ⊤}
use Rattle.event_runner.specs.Running.{HasLooked}
use Rattle.shared_channel.specs.Passes.{PassView, desk_of}
use Rattle.worker_session.specs.Turning.{pending_of, ready_of}

-- nothing is pending or ready, where a pass stands
pub record SeesNothing (pass : PassView) : Type 0 where
  pub none_pending : pending_of (desk_of pass) ≡ []
  pub none_ready : ready_of (desk_of pass) ≡ []

-- a look was taken through a pass, and at true nothing is seen to be pending or ready
pub record Looks (none : Bool) (old new : PassView) : Type 0 where
  pub looked : HasLooked (desk_of old) (desk_of new)
  pub nothing : IsTrue none → SeesNothing new

-- the same through each of these passes, one by one
abbrev pub LookEach : Bool → List PassView → List PassView → Type 0
LookEach none [] [] = ⊤
LookEach none [] (new ∷ news) = ⊥
LookEach none (old ∷ olds) [] = ⊥
LookEach none (old ∷ olds) (new ∷ news) = Looks none old new × LookEach none olds news

-- the same through the owner's pass and each worker's
pub record LooksBoth (none : Bool) (owner : PassView) (workers : List PassView) (owner_new : PassView) (workers_new : List PassView) : Type 0 where
  pub owner_looks : Looks none owner owner_new
  pub workers_look : LookEach none workers workers_new
